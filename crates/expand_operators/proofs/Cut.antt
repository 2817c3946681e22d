-- Slices that are refused.
use Rattle.std.proofs.Common.{◌≡◌, ◌≢◌, ℤ, Bool, Option, Some, None, Result, Err, refl, sym, ap, ◌∙◌}
use Rattle.bash_params.specs.Answer.{Refuses}
use Rattle.bash_params.specs.Cut.{substring}
use Rattle.bash_params.specs.declared.error.ParamErr.{ParamErr}
use Rattle.bash_params.specs.declared.error.ParamErr.TheVariants as refusal
use Rattle.eb_bytes.specs.Text.{Text}
use Rattle.shell_state.specs.Outcome.{Faulted, ◌<$>◌, and_then, pure}
use Rattle.shell_state.specs.State.{State}
use Rattle.shell_state.specs.declared.stop.Stop.{Stop}
use Rattle.shell_state.specs.declared.stop.Stop.TheVariants as stop
use Rattle.word_meaning.specs.Operators.{cut, slices, source_sliced}
use Rattle.word_meaning.specs.References.{Found, Many, One, Place, Source, Arguments}
use Rattle.expand_values.specs.Seen.{Finds}
use Rattle.expand_operators.specs.Cuts.{IsCut, cut_fault}

given_is : {A : Type 0} (e : ParamErr) (given : Result A ParamErr) → e ≢ refusal.Memory → Refuses e given → given ≡ Err e
given_is refusal.BadSubstitution given isnt h = h
given_is refusal.ValueSize given isnt h = h
given_is refusal.Memory given isnt h = absurd (isnt refl)

fault_is : {A : Type 0} (name : Text) (e : ParamErr) (at : State) → cut {A = A} name (Err e) at ≡ Faulted (cut_fault name e) at.left at.host.asked
fault_is name refusal.BadSubstitution at = refl
fault_is name refusal.ValueSize at = refl
fault_is name refusal.Memory at = refl

refused : {A : Type 0} (why : Stop) (name : Text) (e : ParamErr) (given : Result A ParamErr) (k : A → Found) (at : State)
    → IsCut why name e → Refuses e given → Finds (Err why) ((k <$> cut name given) at) at
refused (stop.Fault why) name e given k at is h =
    ap (λ r. (k <$> cut name r) at) (given_is e given is.0 h) ∙ ap (λ o. and_then o (λ a. pure (k a))) (fault_is name e at)
    ∙ ap (λ f. Faulted f at.left at.host.asked) (sym is.1)
refused stop.Failed name e given k at is h = absurd is
refused stop.Memory name e given k at is h = tt

pub refused_text : (why : Stop) (name : Text) (e : ParamErr) (offset : ℤ) (len : Option ℤ) (t : Text) (place : Option Place) (at : State)
    → IsCut why name e → Refuses e (substring offset len t) → Finds (Err why) (slices name offset len (One (Some t) place) at) at
refused_text why name e offset len t place at is h = refused why name e (substring offset len t) (λ u. One (Some u) None) at is h

pub refused_list : (why : Stop) (name : Text) (e : ParamErr) (offset : ℤ) (len : Option ℤ) (star : Bool) (source : Source) (at : State)
    → IsCut why name e → Refuses e (source_sliced offset len source) → Finds (Err why) (slices name offset len (Many star source) at) at
refused_list why name e offset len star source at is h = refused why name e (source_sliced offset len source) (λ us. Many star (Arguments us)) at is h
