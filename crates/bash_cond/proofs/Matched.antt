-- Steps that are spent time and again, before a pattern is matched.
use Rattle.std.proofs.Common.{◌≡◌, ◌⊎◌, inl, inr, ℕ, suc, ◌+◌, ◌-◌, ◌*◌, ◌<◌, ◌≤◌, List, Err, refl, sym, ap, subst, ◌∙◌, arith}
use Rattle.std.proofs.Math.Nat.{suc-mul}
use Rattle.std.proofs.lemmas.Nat.{mul-le}
use Rattle.eb_bytes.specs.Text.{Text}
use Rattle.shell_state.specs.State.{State}
use Rattle.shell_state.specs.Outcome.{Outcome, Ended, Faulted, and_then, left_of, ◌>>◌, pure, Tells}
use Rattle.shell_state.specs.Spending.{spend}
use Rattle.shell_state.specs.declared.fault.Fault.{Fault}
use Rattle.shell_state.specs.declared.fault.Fault.TheVariants as fault
use Rattle.shell_state.specs.declared.stop.Stop.{Stop}
use Rattle.shell_state.specs.declared.stop.Stop.TheVariants as stop
use Rattle.shell_state.proofs.Spent.{adds_up, at_most, enough, never_rises, short}

-- the state with so many steps left
abbrev with : ℕ → State → State
with k at = record at { left = k }

nothing : (at : State) (k : ℕ) → at.left ≡ k → spend 0 at ≡ Ended tt (with k at)
nothing at k e = enough 0 at (omega arith) ∙ ap (λ j. Ended tt (with j at)) (omega (arith, e))

pub no_time : (each : ℕ) (at : State) (k : ℕ) → at.left ≡ k → spend (0 * each) at ≡ Ended tt (with k at)
no_time each at k e = ap (λ n. spend n at) (none each) ∙ nothing at k e
  where
    none : (each : ℕ) → 0 * each ≡ 0
    none each = omega arith

-- so many times, and once more
again : (i each : ℕ) (at : State) (j : ℕ) → spend (i * each) at ≡ Ended tt (with j at)
    → spend ((i + 1) * each) at ≡ spend each (with j at)
again i each at j h =
    ap (λ n. spend n at) (one_more i each) ∙ sym (adds_up (i * each) each at) ∙ ap (λ o. and_then o (λ _. spend each)) h
  where
    one_more : (i each : ℕ) → (i + 1) * each ≡ i * each + each
    one_more i each = let e : i + 1 ≡ suc i = omega arith in ap (λ k. k * each) e ∙ suc-mul i each

pub once_more : (i each : ℕ) (at : State) (j k : ℕ) → spend (i * each) at ≡ Ended tt (with j at)
    → spend each (with j at) ≡ Ended tt (with k at) → spend ((i + 1) * each) at ≡ Ended tt (with k at)
once_more i each at j k h g = again i each at j h ∙ g

-- where some steps are not left, neither are more
more_fail : (m n : ℕ) (at : State) (why : Fault) (k : ℕ) (asked : List Text) → m ≤ n
    → spend m at ≡ Faulted why k asked → spend n at ≡ Faulted why k asked
more_fail m n at why k asked le h = by (at_most m at.left)
  where
    by : (m ≤ at.left) ⊎ (at.left < m) → spend n at ≡ Faulted why k asked
    by (inl few) = absurd (let e : Ended tt (record at { left = at.left - m }) ≡ Faulted why k asked = sym (enough m at few) ∙ h in cc)
    by (inr lt) = short n at (omega (arith, lt, le)) ∙ sym (short m at lt) ∙ h

pub once_fails : (i times each : ℕ) (at : State) (j : ℕ) (why : Fault) (k : ℕ) (asked : List Text) → i < times
    → spend (i * each) at ≡ Ended tt (with j at) → spend each (with j at) ≡ Faulted why k asked
    → spend (times * each) at ≡ Faulted why k asked
once_fails i times each at j why k asked lt h g =
    more_fail ((i + 1) * each) (times * each) at why k asked (mul-le (i + 1) each times each (omega (arith, lt)) (omega arith))
    (again i each at j h ∙ g)

pub times_stopped : (stopped : Stop) (i times each : ℕ) (at : State) (j k : ℕ) → stopped ≡ stop.Fault fault.StepsSpent → i < times
    → spend (i * each) at ≡ Ended tt (with j at) → Tells {A = Unit {0}} (Err stopped) (spend each (with j at)) (with k at)
    → Tells {A = Unit {0}} (Err stopped) (spend (times * each) at) (with k at)
times_stopped (stop.Fault why) i times each at j k e lt h g = once_fails i times each at j why k at.host.asked lt h g
times_stopped stop.Failed i times each at j k e lt h g = absurd (cc)
times_stopped stop.Memory i times each at j k e lt h g = absurd (cc)

-- what is decided after steps are spent spends no more
pub after_spending : {A : Type 0} (n : ℕ) (a : A) (at : State) → left_of ((spend n >> pure a) at) ≤ at.left
after_spending {A} n a at = by (spend n at) (never_rises n at)
  where
    by : (o : Outcome (Unit {0})) → left_of o ≤ at.left → left_of (and_then o (λ _. pure {A = A} a)) ≤ at.left
    by (Ended u after) le = le
    by (Faulted why left asked) le = le
