-- What an operator makes of texts gives no step back.
use Rattle.std.proofs.Common.{◌≤◌, Bool, true, false, List, [], ◌∷◌, Some, None, arith}
use Rattle.std.specs.Prelude.{if◌then◌else◌, length}
use Rattle.bash_params.specs.Case.{case_changed}
use Rattle.bash_params.specs.Cost.{match_cost, replace_cost}
use Rattle.bash_params.specs.Replacement.{replaced}
use Rattle.bash_params.specs.Stripping.{stripped}
use Rattle.bash_patterns.specs.Pattern.{meaning}
use Rattle.eb_bytes.specs.Text.{Text}
use Rattle.shell_state.specs.Outcome.{Doing, Outcome, Ended, Faulted, ◌>>◌, ◌>>=◌, ◌<$>◌, and_then, left_of, pure, refuse}
use Rattle.shell_state.specs.Spending.{spend}
use Rattle.shell_state.specs.State.{State}
use Rattle.shell_state.specs.declared.fault.Fault.TheVariants as fault
use Rattle.shell_state.proofs.Spent.{never_rises}
use Rattle.shell_vars.specs.Value.{is_short}
use Rattle.word_meaning.specs.Operators.{case_of, each_text, each_value, fitting, replace_of, strip_of}
use Rattle.word_meaning.specs.References.{Arguments, Found, Many, One, texts}
use Rattle.expand_operators.specs.Changes.{changes_text, unless}
use Rattle.expand_operators.specs.declared.change.Change.{Change}
use Rattle.expand_operators.specs.declared.change.Change.TheVariants as change

-- a part gives no step back
abbrev pub Falls : {A : Type 0} → Doing A → Type 0
Falls p = (at : State) → left_of (p at) ≤ at.left

pub pure_falls : {A : Type 0} (a : A) → Falls (pure a)
pure_falls a at = omega arith

pub bound_falls : {A B : Type 0} (p : Doing A) (k : A → Doing B) → Falls p → ((a : A) → Falls (k a)) → Falls (p >>= k)
bound_falls {A} {B} p k f g at = by (p at) (f at)
  where
    by : (o : Outcome A) → left_of o ≤ at.left → left_of (and_then o k) ≤ at.left
    by (Ended a q) le = let more : left_of (k a q) ≤ q.left = g a q in omega (arith, le, more)
    by (Faulted why left asked) le = le

pub fitting_falls : (t : Text) → Falls (fitting t)
fitting_falls t at = by (is_short t)
  where
    by : (b : Bool) → left_of (((if b then pure {A = Unit {0}} tt else refuse fault.ValueSize) >> pure t) at) ≤ at.left
    by true = omega arith
    by false = omega arith

pub change_falls : (c : Change) (t : Text) → Falls (changes_text c t)
change_falls (change.Strip op form marks) t =
    bound_falls (spend (match_cost (length t) marks)) (λ u. pure (stripped (strip_of op) (meaning form.now) t)) (never_rises (match_cost (length t) marks))
    (λ u. pure_falls (stripped (strip_of op) (meaning form.now) t))
change_falls (change.Replace r) t =
    bound_falls (spend (replace_cost (length t) r.marks))
    (λ u. fitting (replaced (replace_of r.op) (unless r.is_empty (meaning r.pattern.now)) r.by.now t)) (never_rises (replace_cost (length t) r.marks))
    (λ u. fitting_falls (replaced (replace_of r.op) (unless r.is_empty (meaning r.pattern.now)) r.by.now t))
change_falls (change.Case op form) t = pure_falls (case_changed (case_of op) (meaning form.now) t)

pub each_falls : (f : Text → Doing Text) → ((t : Text) → Falls (f t)) → (ts : List Text) → Falls (each_text f ts)
each_falls f g [] = pure_falls {A = List Text} []
each_falls f g (t ∷ ts) =
    bound_falls (f t) (λ u. (λ us. u ∷ us) <$> each_text f ts) (g t)
    (λ u. bound_falls (each_text f ts) (λ us. pure (u ∷ us)) (each_falls f g ts) (λ us. pure_falls (u ∷ us)))

pub value_falls : (f : Text → Doing Text) → ((t : Text) → Falls (f t)) → (found : Found) → Falls (each_value f found)
value_falls f g (One None place) = pure_falls (One None None)
value_falls f g (One (Some t) place) = bound_falls (f t) (λ u. pure (One (Some u) None)) (g t) (λ u. pure_falls (One (Some u) None))
value_falls f g (Many star source) =
    bound_falls (each_text f (texts source)) (λ us. pure (Many star (Arguments us))) (each_falls f g (texts source))
    (λ us. pure_falls (Many star (Arguments us)))

-- what is made of what is found
pub each_lasts : (c : Change) (found : Found) (at : State) → left_of (each_value (changes_text c) found at) ≤ at.left
each_lasts c found at = value_falls (changes_text c) (change_falls c) found at
