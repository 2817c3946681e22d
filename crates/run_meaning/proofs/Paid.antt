-- Two runs side by side: steps that are paid, and loops that may make so many turns.
use Rattle.std.proofs.Common.{◌≡◌, ℕ, zero, suc, ◌-◌, ◌<◌, ◌≤◌, List, ◌++◌, Bool, true, false, refl, ap, subst, ◌∙◌, arith}
use Rattle.std.specs.Prelude.{nat_le}
use Rattle.eb_bytes.specs.Text.{Text}
use Rattle.shell_state.specs.State.{State}
use Rattle.shell_state.specs.Outcome.{Outcome, Ended, Faulted, Doing, ◌>>◌, and_then, left_of, asked_of}
use Rattle.shell_state.specs.Spending.{spend}
use Rattle.shell_state.specs.declared.fault.Fault.TheVariants as fault
use Rattle.shell_state.proofs.Kept.{here, further, Kept, plain, Part}
use Rattle.run_meaning.specs.Ends.{End, Goes, Breaks, Continues, Returns, Run, going}
use Rattle.run_meaning.specs.Lists.{inverted}
use Rattle.run_meaning.specs.Loops.{spent}

-- a part that ends in a jump ends with fewer steps, and any other with no more
abbrev pub Pays : (left : ℕ) → Run → Type 0
Pays left (Ended Goes p) = p.left ≤ left
Pays left (Ended (Breaks n) p) = p.left < left
Pays left (Ended (Continues n) p) = p.left < left
Pays left (Ended Returns p) = p.left < left
Pays left (Faulted why l asked) = Unit {0}

-- a part that always ends with fewer steps
abbrev pub Costs : (left : ℕ) → Run → Type 0
Costs left (Ended how p) = p.left < left
Costs left (Faulted why l asked) = Unit {0}

pub has_step : (left : ℕ) → nat_le 1 left ≡ true → 0 < left
has_step zero e = cc
has_step (suc left) e = omega arith

costs_pays : (left : ℕ) (r : Run) → Costs left r → Pays left r
costs_pays left (Ended Goes p) c = omega (arith, c)
costs_pays left (Ended (Breaks n) p) c = c
costs_pays left (Ended (Continues n) p) c = c
costs_pays left (Ended Returns p) c = c
costs_pays left (Faulted why l asked) c = tt

-- from fewer steps
lower : (most left : ℕ) (r : Run) → left ≤ most → Pays left r → Pays most r
lower most left (Ended Goes p) le c = omega (arith, le, c)
lower most left (Ended (Breaks n) p) le c = omega (arith, le, c)
lower most left (Ended (Continues n) p) le c = omega (arith, le, c)
lower most left (Ended Returns p) le c = omega (arith, le, c)
lower most left (Faulted why l asked) le c = tt

-- what follows where no jump passes it
pub going_pays : (left : ℕ) (r : Run) (next : Doing End) → Pays left r → ((p : State) → p.left ≤ left → Pays p.left (next p)) → Pays left (and_then r (going next))
going_pays left (Ended Goes p) next c e = lower left p.left (next p) c (e p c)
going_pays left (Ended (Breaks n) p) next c e = c
going_pays left (Ended (Continues n) p) next c e = c
going_pays left (Ended Returns p) next c e = c
going_pays left (Faulted why l asked) next c e = tt

pub inverted_pays : (left : ℕ) (b : Bool) (r : Run) → Costs left r → Pays left (and_then r (inverted b))
inverted_pays left true (Ended Goes p) c = omega (arith, c)
inverted_pays left true (Ended (Breaks n) p) c = c
inverted_pays left true (Ended (Continues n) p) c = c
inverted_pays left true (Ended Returns p) c = c
inverted_pays left false r c = costs_pays left (and_then r (inverted false)) (unchanged r c)
  where
    unchanged : (r : Run) → Costs left r → Costs left (and_then r (inverted false))
    unchanged (Ended how p) c = c
    unchanged (Faulted why l asked) c = tt
inverted_pays left true (Faulted why l asked) c = tt

module _ (Agrees : List Text → Type 0) (front : (xs ys : List Text) → Agrees (xs ++ ys) → Agrees xs) where
  abbrev pub Within : {A : Type 0} → ℕ → ℕ → Doing A → Doing A → Type 0
  Within {A} i j f g = Part Agrees front i j {A = A} f g

  pub narrow : {A : Type 0} (m n i j : ℕ) (f g : Doing A) → i ≤ m → j ≤ n → Within m n f g → Within i j f g
  narrow m n i j f g p q k at le lf = k at (omega (arith, le, p)) (omega (arith, lf, q))

  pub spent_within : {A : Type 0} (i j : ℕ) → Within {A = A} i j spent spent
  spent_within i j at le lf = plain Agrees front at (spent at) (record { less = omega arith; more = (here at).more; kept = (here at).kept })

  pays : {A : Type 0} (i j : ℕ) (f g : Doing A) (at : State) (b : Bool) → nat_le 1 at.left ≡ b → at.left ≤ suc i → at.left ≤ suc j → Within i j f g → Kept Agrees front at ((spend 1 >> f) at) ((spend 1 >> g) at)
  unfolding spend
  pays i j f g at true e le lf k =
      let p = record at { left = at.left - 1 } in
      let d = k p (omega arith) (omega arith) in
      rw e (record { later = further at p (left_of (f p)) (asked_of (f p)) (record { less = omega arith; more = (here at).more; kept = (here at).kept }) d.later; same = d.same })
  pays i j f g at false e le lf k = rw e (plain Agrees front at (Faulted fault.StepsSpent 0 at.host.asked) (record { less = omega arith; more = (here at).more; kept = (here at).kept }))

  pub paid_within : {A : Type 0} (i j : ℕ) (f g : Doing A) → Within i j f g → Within (suc i) (suc j) (spend 1 >> f) (spend 1 >> g)
  paid_within i j f g k at le lf = pays i j f g at (nat_le 1 at.left) refl le lf k

  no_step : (left : ℕ) → nat_le 1 left ≡ true → left ≤ 0 → ⊥
  no_step zero e le = cc
  no_step (suc left) e le = omega arith

  -- where no step is left, none is paid
  none_left : {A : Type 0} (g : Doing A) (at : State) (b : Bool) → nat_le 1 at.left ≡ b → at.left ≤ 0 → Kept Agrees front at (spent {A = A} at) ((spend 1 >> g) at)
  unfolding spend
  none_left g at true e le = absurd (no_step at.left e le)
  none_left g at false e le = record { later = record { less = omega arith; more = (here at).more; kept = (here at).kept }; same = λ w. rw e refl }

  left_none : {A : Type 0} (g : Doing A) (at : State) (b : Bool) → nat_le 1 at.left ≡ b → at.left ≤ 0 → Kept Agrees front at ((spend 1 >> g) at) (spent {A = A} at)
  unfolding spend
  left_none g at true e le = absurd (no_step at.left e le)
  left_none g at false e le = rw e (record { later = record { less = omega arith; more = (here at).more; kept = (here at).kept }; same = λ w. refl })

  pub zero_within : {A : Type 0} (j : ℕ) (g : Doing A) → Within 0 j spent (spend 1 >> g)
  zero_within j g at le lf = none_left g at (nat_le 1 at.left) refl le

  pub within_zero : {A : Type 0} (i : ℕ) (g : Doing A) → Within i 0 (spend 1 >> g) spent
  within_zero i g at le lf = left_none g at (nat_le 1 at.left) refl lf

  -- ---- what follows a part that paid a step where it ends in a jump

  after : {A B : Type 0} (h k : A → Doing B) (at : State) (a : A) (p : State) (s : Outcome A)
      → Kept Agrees front at (Ended a p) s → Kept Agrees front p (h a p) (k a p) → Kept Agrees front at (h a p) (and_then s k)
  after h k at a p s c d = record {
    later = further at p (left_of (h a p)) (asked_of (h a p)) c.later d.later;
    same = λ w. ap (λ o. and_then o k) (c.same (front p.host.asked d.later.more (subst Agrees d.later.kept w))) ∙ d.same w;
  }

  -- the commands of a test, and what follows after a jump, which then has paid
  pub test_bound : (h k : End → Doing End) (at : State) (r s : Run) → Kept Agrees front at r s → Pays at.left r
      → ((p : State) → p.left ≤ at.left → Kept Agrees front p (h Goes p) (k Goes p))
      → ((how : End) (p : State) → p.left < at.left → Kept Agrees front p (h how p) (k how p))
      → Kept Agrees front at (and_then r h) (and_then s k)
  test_bound h k at (Ended Goes p) s c pays goes jumps = after h k at Goes p s c (goes p pays)
  test_bound h k at (Ended (Breaks n) p) s c pays goes jumps = after h k at (Breaks n) p s c (jumps (Breaks n) p pays)
  test_bound h k at (Ended (Continues n) p) s c pays goes jumps = after h k at (Continues n) p s c (jumps (Continues n) p pays)
  test_bound h k at (Ended Returns p) s c pays goes jumps = after h k at Returns p s c (jumps Returns p pays)
  test_bound h k at (Faulted why l asked) s c pays goes jumps = record { later = c.later; same = λ w. ap (λ o. and_then o k) (c.same w) }
