-- What is made of a text once its cost is paid.
use Rattle.std.proofs.Common.{◌≡◌, ℕ, ◌≤◌, Bool, true, false, Result, Ok, Err, sym, ap, subst, ◌∙◌, arith}
use Rattle.std.specs.Prelude.{if◌then◌else◌}
use Rattle.bash_params.specs.Answer.{Refuses, checked}
use Rattle.bash_params.specs.declared.error.ParamErr.{ParamErr}
use Rattle.bash_params.specs.declared.error.ParamErr.TheVariants as refusal
use Rattle.eb_bytes.specs.Text.{Text}
use Rattle.shell_state.specs.Outcome.{Doing, Ended, Faulted, ◌>>◌, and_then, left_of, pure, refuse, Tells}
use Rattle.shell_state.specs.Spending.{spend}
use Rattle.shell_state.specs.State.{State}
use Rattle.shell_state.specs.declared.fault.Fault.TheVariants as fault
use Rattle.shell_state.specs.declared.stop.Stop.{Stop}
use Rattle.shell_state.specs.declared.stop.Stop.TheVariants as stop
use Rattle.shell_vars.specs.Value.{is_short}
use Rattle.word_meaning.specs.Operators.{fitting}
use Rattle.expand_operators.specs.Changes.{IsTooLong, Makes}

-- what is made behind what is paid
pub after_paying : (n : ℕ) (p : Doing Text) (result : Result Text Stop) (at after : State) → spend n at ≡ Ended tt after → Makes result p
    → Tells result ((spend n >> p) at) after
after_paying n p (Ok u) at after e m = ap (λ o. and_then o (λ _. p)) e ∙ m after
after_paying n p (Err (stop.Fault why)) at after e m = ap (λ o. and_then o (λ _. p)) e ∙ m after
after_paying n p (Err stop.Failed) at after e m = absurd m
after_paying n p (Err stop.Memory) at after e m = subst (λ o. left_of (and_then o (λ _. p)) ≤ after.left) (sym e) (m after)

-- nothing is made where it is not paid
pub not_paid : (n : ℕ) (p : Doing Text) (why : Stop) (at after : State) → why ≡ stop.Fault fault.StepsSpent → Tells {A = Unit {0}} (Err why) (spend n at) after
    → Tells {A = Text} (Err why) ((spend n >> p) at) after
not_paid n p (stop.Fault why) at after is t = ap (λ o. and_then o (λ _. p)) t
not_paid n p stop.Failed at after is t = absurd (cc)
not_paid n p stop.Memory at after is t = absurd (cc)

-- a text, where it is short enough
abbrev by_length : (b : Bool) (t : Text) → Result Text ParamErr
by_length b t = if b then Ok t else Err refusal.ValueSize

abbrev fit : Bool → Text → Doing Text
fit b t = (if b then pure {A = Unit {0}} tt else refuse fault.ValueSize) >> pure t

abbrev as_text : Text → Result Text ParamErr
as_text t = Ok t

same : (t u : Text) → as_text t ≡ as_text u → t ≡ u
same t u e = cc

pub fits_there : (t u : Text) → checked t ≡ Ok u → Makes (Ok u) (fitting t)
fits_there t u e at = by (is_short t) e
  where
    by : (b : Bool) → by_length b t ≡ Ok u → fit b t at ≡ Ended u at
    by true h = ap (λ v. Ended v at) (same t u h)
    by false h = absurd (cc)

pub fits_not : (t : Text) (why : Stop) (e : ParamErr) → IsTooLong why e → Refuses e (checked t) → Makes (Err why) (fitting t)
fits_not t (stop.Fault why) e is h = λ at. by (is_short t) at (subst (λ d. Refuses d (checked t)) is.0 h)
  where
    by : (b : Bool) (at : State) → by_length b t ≡ Err refusal.ValueSize → fit b t at ≡ Faulted why at.left at.host.asked
    by true at g = absurd (cc)
    by false at g = ap (λ f. Faulted f at.left at.host.asked) (sym is.1)
fits_not t stop.Failed e is h = absurd is
fits_not t stop.Memory e is h = λ at. by (is_short t) at
  where
    by : (b : Bool) (at : State) → left_of (fit b t at) ≤ at.left
    by true at = omega arith
    by false at = omega arith
