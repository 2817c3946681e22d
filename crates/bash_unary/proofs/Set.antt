-- Whether a parameter is set, case by case.
use Rattle.std.proofs.Common.{◌≡◌, ℕ, length, nat_cmp, ℤ, Bool, true, false, ◌+◌, ◌==◌, drop, Option, Some, None, Result, refl, subst, ap, sym, ◌∙◌}
use Rattle.std.specs.FinMap as map
use Rattle.std.specs.FinMap.{len-empty, len-entries}
use Rattle.shell_vars.specs.Store.{Store}
use Rattle.shell_vars.proofs.Single.{entries-single}
use Rattle.std.specs.List.{position_or_len}
use Rattle.eb_bytes.specs.Text.{Text}
use Rattle.eb_syntax.specs.Tree.{Ref, Sub}
use Rattle.eb_syntax.specs.declared.parts.RefOf.TheVariants as ref
use Rattle.shell_state.specs.Outcome.{Tells, Ended}
use Rattle.shell_state.specs.State.{State}
use Rattle.shell_state.specs.declared.stop.Stop.{Stop}
use Rattle.shell_vars.specs.declared.value.Value.TheVariants as value
use Rattle.bash_cond.specs.Arithmetic.{evaluates}
use Rattle.run_meaning.specs.Builtins.{after_bracket}
use Rattle.run_meaning.specs.Conditions.{has_at, has_element, has_special, is_set}
use Rattle.bash_unary.specs.Parameters.{has_any, has_variable, means_all, subscript_of}

-- what stands after the first byte that passes is what is left behind its place
pub behind_bracket : (t : Text) → after_bracket t ≡ drop (position_or_len (λ b. b == 91) t + 1) t
behind_bracket t = refl

pub at_index : (name e : Text) (n m : ℤ) (at after : State) (result : Result Bool Stop) → means_all e ≡ false → m ≡ n
    → evaluates e at ≡ Ended n after → Tells result (has_element name (Some m) after) after → Tells result (has_at name e at) after
at_index name e n m at after result f i h t = rw f (rw h (subst (λ k. Tells result (has_element name (Some k) after) after) i t))

-- where nothing was spent, and the variables stayed
pub without_subscript : (name : Text) (given : Option Text) (at : State) (store : Store) (left : ℕ) (result : Result Bool Stop) → given ≡ None
    → at.store ≡ store → at.left ≡ left → Tells result (has_element name None at) at → Tells result (has_variable name given at) (record at { store = store; left = left })
without_subscript name given at store left result n e f t = rw n (rw (sym e) (rw (sym f) t))

read_name : (operand name : Text) (read : Option Sub) (at after : State) (result : Result Bool Stop)
    → Tells result (has_variable name (subscript_of operand read) at) after → Tells result (is_set operand (Some (ref.Name name read)) at) after
read_name operand name None at after result t = t
read_name operand name (Some sub) at after result t = t

-- the name and the subscript are looked at where they stand
pub of_name : (operand name seen : Text) (read looked : Option Sub) (given : Option Text) (r : Option Ref) (at after : State) (result : Result Bool Stop)
    → r ≡ Some (ref.Name name read) → seen ≡ name → looked ≡ read → given ≡ subscript_of operand looked
    → Tells result (has_variable seen given at) after → Tells result (is_set operand r at) after
of_name operand name seen read looked given r at after result e f h i t =
    rw e (read_name operand name read at after result (subst (λ x. Tells result (has_variable x (subscript_of operand read) at) after) f
    (subst (λ x. Tells result (has_variable seen (subscript_of operand x) at) after) h (subst (λ x. Tells result (has_variable seen x at) after) i t))))

pub of_special : (operand : Text) (b : ℕ) (r : Option Ref) (at after : State) (result : Result Bool Stop) → r ≡ Some (ref.Special b)
    → Tells result (has_special b at) after → Tells result (is_set operand r at) after
of_special operand b r at after result e t = rw e t

pub of_text : (t : Text) → true ≡ has_any (Some (value.Text t))
of_text t = rw (len-entries (map.insert map.empty 0 t) ∙ ap length (entries-single t)) refl

pub of_nothing : false ≡ has_any None
of_nothing = rw (len-empty nat_cmp Text) refl
