-- Evaluations as parts of a run.
use Rattle.std.proofs.Common.{◌≡◌, ◌≢◌, ℕ, ◌≤◌, ℤ, Bool, Err, refl, sym, ap, subst, ◌∙◌, arith}
use Rattle.std.proofs.Math.Nat.{min-le_left, min-le_right, min-eq_left}
use Rattle.eb_bytes.specs.Text.{Text}
use Rattle.shell_vars.specs.Store.{Store}
use Rattle.bash_arith.specs.Outcome as arith
use Rattle.bash_arith.specs.Value.{arithmetic}
use Rattle.bash_arith.specs.declared.error.ArithErr.{ArithErr}
use Rattle.bash_arith.specs.declared.error.ArithErr.TheVariants as error
use Rattle.shell_state.specs.Outcome.{Ended, Faulted, Outcome, left_of, Tells, and_then, ◌>>=◌, pure}
use Rattle.shell_state.specs.State.{State}
use Rattle.shell_state.specs.declared.stop.Stop.{Stop}
use Rattle.shell_state.specs.declared.stop.Stop.TheVariants as stop
use Rattle.bash_cond.specs.Arithmetic.{arithmetic_fault, ends_as, evaluates, variables_of, IsArithmeticFault}
use Rattle.bash_cond.specs.Numbers.{numbers_stand}
use Rattle.bash_cond.specs.Operators.{stand}
use Rattle.bash_cond.specs.declared.operator.Relation.{Relation}

-- ---- steps never rise

ends_left : (t : Text) (o : arith.Outcome) (at : State) → left_of (ends_as t o at) ≤ at.left
ends_left t (arith.Ended n s) at = min-le_right s.left at.left
ends_left t (arith.Faulted fails s) at = min-le_right s.left at.left
ends_left t (arith.Changed s o) at = ends_left t o at

pub never_rises : (t : Text) (at : State) → left_of (evaluates t at) ≤ at.left
unfolding evaluates
never_rises t at = ends_left t (arith.last (arithmetic t (variables_of at))) at

last_left : (t : Text) (o : arith.Outcome) (at : State) → left_of (ends_as t (arith.last o) at) ≤ arith.left_of o
last_left t (arith.Ended n s) at = min-le_left s.left at.left
last_left t (arith.Faulted fails s) at = min-le_left s.left at.left
last_left t (arith.Changed s o) at = last_left t o at

-- ---- how an evaluation ends

-- the variables, and the steps that are left
abbrev with : Store → ℕ → arith.State
with store left = record { store = store; left = left }

same : (at : State) (old : Store) (l : ℕ) → at.store ≡ old → at.left ≡ l → variables_of at ≡ with old l
same at old l e f = ap (λ x. with x at.left) e ∙ ap (λ k. with old k) f

from : (t : Text) (at : State) (old : Store) (l : ℕ) → at.store ≡ old → at.left ≡ l
    → evaluates t at ≡ ends_as t (arith.last (arithmetic t (with old l))) at
unfolding evaluates
from t at old l e f = ap (λ v. ends_as t (arith.last (arithmetic t v)) at) (same at old l e f)

pub ended : (t : Text) (at : State) (old new : Store) (l k : ℕ) (n : ℤ) → at.store ≡ old → at.left ≡ l → k ≤ l
    → arith.last (arithmetic t (with old l)) ≡ arith.Ended n (with new k)
    → evaluates t at ≡ Ended n (record at { store = new; left = k })
ended t at old new l k n e f le h =
    from t at old l e f ∙ ap (λ o. ends_as t o at) h
    ∙ ap (λ j. Ended n (record at { store = new; left = j })) (min-eq_left (omega (arith, f, le)))

faulted : (t : Text) (at : State) (old new : Store) (l k : ℕ) (fails : ArithErr) → at.store ≡ old → at.left ≡ l → k ≤ l
    → arith.last (arithmetic t (with old l)) ≡ arith.Faulted fails (with new k)
    → evaluates t at ≡ Faulted (arithmetic_fault t fails) k at.host.asked
faulted t at old new l k fails e f le h =
    from t at old l e f ∙ ap (λ o. ends_as t o at) h
    ∙ ap (λ j. Faulted (arithmetic_fault t fails) j at.host.asked) (min-eq_left (omega (arith, f, le)))

told : (fails : ArithErr) (o : arith.Outcome) (u : arith.State) → fails ≢ error.Memory → arith.Tells (Err fails) o u
    → arith.last o ≡ arith.Faulted fails u
told error.Syntax o u isnt h = h
told error.DivZero o u isnt h = h
told error.NegativeExponent o u isnt h = h
told error.Nesting o u isnt h = h
told (error.Unsupported name) o u isnt h = h
told (error.Var name refused) o u isnt h = h.1
told error.Spent o u isnt h = h
told error.Memory o u isnt h = absurd (isnt refl)

-- no more steps were spent than it spends
spent : (fails : ArithErr) (t : Text) (at : State) (old new : Store) (l k : ℕ) → at.store ≡ old → at.left ≡ l → k ≤ l
    → arith.Tells (Err fails) (arithmetic t (with old l)) (with new k)
    → (fails ≡ error.Memory → arith.left_of (arithmetic t (with old l)) ≤ k)
    → left_of (evaluates t at) ≤ k
spent fails t at old new l k e f le h out = by fails h out
  where
    none : (why : ArithErr) → why ≢ error.Memory → arith.Tells (Err why) (arithmetic t (with old l)) (with new k) → left_of (evaluates t at) ≤ k
    none why isnt g =
        subst (λ o. left_of o ≤ k) (sym (faulted t at old new l k why e f le (told why (arithmetic t (with old l)) (with new k) isnt g))) (omega arith)

    by : (why : ArithErr) → arith.Tells (Err why) (arithmetic t (with old l)) (with new k)
        → (why ≡ error.Memory → arith.left_of (arithmetic t (with old l)) ≤ k) → left_of (evaluates t at) ≤ k
    by error.Syntax g m = none error.Syntax (λ x. cc) g
    by error.DivZero g m = none error.DivZero (λ x. cc) g
    by error.NegativeExponent g m = none error.NegativeExponent (λ x. cc) g
    by error.Nesting g m = none error.Nesting (λ x. cc) g
    by (error.Unsupported name) g m = none (error.Unsupported name) (λ x. cc) g
    by (error.Var name refused) g m = none (error.Var name refused) (λ x. cc) g
    by error.Spent g m = none error.Spent (λ x. cc) g
    by error.Memory g m =
        let more : left_of (ends_as t (arith.last (arithmetic t (with old l))) at) ≤ arith.left_of (arithmetic t (with old l)) = last_left t (arithmetic t (with old l)) at in
        let less : arith.left_of (arithmetic t (with old l)) ≤ k = m refl in
        subst (λ o. left_of o ≤ k) (sym (from t at old l e f)) (omega (arith, more, less))

pub stopped : (why : Stop) (fails : ArithErr) (t : Text) (at : State) (old new : Store) (l k : ℕ)
    → IsArithmeticFault why t fails
    → at.store ≡ old → at.left ≡ l → k ≤ l
    → arith.Tells (Err fails) (arithmetic t (with old l)) (with new k)
    → (fails ≡ error.Memory → arith.left_of (arithmetic t (with old l)) ≤ k)
    → Tells (Err why) (evaluates t at) (record at { store = new; left = k })
stopped (stop.Fault why) fails t at old new l k is e f le h out =
    faulted t at old new l k fails e f le (told fails (arithmetic t (with old l)) (with new k) is.0 h)
    ∙ ap (λ w. Faulted w k at.host.asked) (sym is.1)
stopped stop.Failed fails t at old new l k is e f le h out = absurd is
stopped stop.Memory fails t at old new l k is e f le h out = spent fails t at old new l k e f le h out

-- ---- one after another

-- what ends in a value, after two evaluations, spends no less than the first one
pub first_kept : (o : Outcome ℤ) (u : Text) (f : ℤ → ℤ → Bool) (k : ℕ) → left_of o ≤ k
    → left_of (and_then o (λ m. evaluates u >>= (λ n. pure (f m n)))) ≤ k
first_kept (Ended m at) u f k le = let less : left_of (and_then (evaluates u at) (λ n. pure (f m n))) ≤ at.left = second (evaluates u at) (f m) at.left (never_rises u at) in omega (arith, le, less)
  where
    second : (o : Outcome ℤ) (g : ℤ → Bool) (j : ℕ) → left_of o ≤ j → left_of (and_then o (λ n. pure (g n))) ≤ j
    second (Ended n at) g j h = h
    second (Faulted why left asked) g j h = h
first_kept (Faulted why left asked) u f k le = le

pub both_kept : (o : Outcome ℤ) (g : ℤ → Bool) (k : ℕ) → left_of o ≤ k → left_of (and_then o (λ n. pure (g n))) ≤ k
both_kept (Ended n at) g k le = le
both_kept (Faulted why left asked) g k le = le

-- where the first evaluation stops, so do both
pub first_stopped : (why : Stop) (o : Outcome ℤ) (u : Text) (f : ℤ → ℤ → Bool) (at : State) → Tells {A = ℤ} (Err why) o at
    → Tells {A = Bool} (Err why) (and_then o (λ m. evaluates u >>= (λ n. pure (f m n)))) at
first_stopped (stop.Fault why) o u f at h = ap (λ p. and_then p (λ m. evaluates u >>= (λ n. pure (f m n)))) h
first_stopped stop.Failed o u f at h = first_kept o u f at.left h
first_stopped stop.Memory o u f at h = first_kept o u f at.left h

-- two numbers give no steps back
pub numbers_kept : (relation : Relation) (t u : Text) (at : State) (k : ℕ) → at.left ≡ k → left_of (numbers_stand relation t u at) ≤ k
numbers_kept relation t u at k e =
    first_kept (evaluates t at) u (stand relation) k (let less : left_of (evaluates t at) ≤ at.left = never_rises t at in omega (arith, less, e))
