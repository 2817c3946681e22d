-- What a reference is, by what is looked for.
use Rattle.std.proofs.Common.{◌≡◌, ℤ, Bool, List, Some, None, Result, Ok, Err, sym, ap, subst}
use Rattle.eb_bytes.specs.Text.{Text}
use Rattle.eb_syntax.specs.Tree.{Ref}
use Rattle.eb_syntax.specs.declared.parts.RefOf.TheVariants as ref
use Rattle.eb_syntax.specs.declared.tree.SubPart.{SubPart}
use Rattle.shell_state.specs.Outcome.{Doing}
use Rattle.shell_state.specs.State.{State}
use Rattle.shell_state.specs.declared.stop.Stop.{Stop}
use Rattle.shell_state.specs.declared.stop.Stop.TheVariants as stop
use Rattle.word_meaning.specs.References.{referred, star_of, subscripted}
use Rattle.expand_values.specs.Seen.{Finds}
use Rattle.expand_values.specs.declared.found.Found.{Found}
use Rattle.expand_parts.specs.Params.{IsFoundBy, Refers}
use Rattle.expand_parts.specs.declared.refer.Referred.{Referred}
use Rattle.expand_parts.specs.declared.refer.Referred.TheVariants as referred_as

module _ (result : Result Referred Stop) (found : Result Found Stop) (index : List SubPart → Doing ℤ) (at : State) where
  pub found_so : (r : Ref) → IsFoundBy result found → Finds found (referred index r at) at → Refers result r index at
  found_so r is h = by found is h
    where
      by : (k : Result Found Stop) → IsFoundBy result k → Finds k (referred index r at) at → Refers result r index at
      by (Ok f) e h = subst (λ x. Refers x r index at) (sym e) h
      by (Err (stop.Fault why)) e h = subst (λ x. Refers x r index at) (sym e) h
      by (Err stop.Failed) e h = absurd h
      by (Err stop.Memory) e h = subst (λ x. Refers x r index at) (sym e) tt

  pub array_found : (name : Text) (parts : List SubPart) (star : Bool) → star_of parts ≡ Some star → IsFoundBy result found
      → Finds found (subscripted index name parts (Some star) at) at → Refers result (ref.Name name (Some parts)) index at
  array_found name parts star e is h =
      found_so (ref.Name name (Some parts)) is (subst (λ s. Finds found (subscripted index name parts s at) at) (sym e) h)

pub subscript_first : (name : Text) (parts : List SubPart) (index : List SubPart → Doing ℤ) (at : State) → star_of parts ≡ None
    → Refers (Ok (referred_as.Subscript parts)) (ref.Name name (Some parts)) index at
subscript_first name parts index at e = ap (λ s. subscripted index name parts s at) e
