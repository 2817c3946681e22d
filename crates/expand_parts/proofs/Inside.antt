-- Parts that are opened, and what comes one after another.
use Rattle.std.proofs.Common.{◌≡◌, ℕ, zero, suc, ◌-◌, ◌<◌, refl, ap, arith}
use Rattle.shell_state.specs.Outcome.{Doing, Outcome, Ended, Faulted, and_then}
use Rattle.shell_state.specs.State.{State}
use Rattle.shell_state.specs.declared.fault.Fault.TheVariants as fault
use Rattle.word_meaning.specs.Words.{Parts, inside, opened, parts_in}
use Rattle.expand_parts.specs.Rest.{Sub}

pub assoc : {A B C : Type 0} (r : Outcome A) (f : A → Doing B) (g : B → Doing C)
    → and_then (and_then r f) g ≡ and_then r (λ v p. and_then (f v p) g)
assoc (Ended a at) f g = refl
assoc (Faulted why left asked) f g = refl

-- where a part may be opened, what stands in it is read with one fewer that may
pub opened_inside : {A : Type 0} (sub : Sub) (n : ℕ) (f : Parts → Doing A) (at : State) → 0 < n
    → opened (inside sub n) f at ≡ f (parts_in sub (inside sub (n - 1))) at
unfolding inside
opened_inside sub zero f at h = absurd (omega (arith, h))
opened_inside sub (suc n) f at h = let e : n ≡ suc n - 1 = omega arith in ap (λ k. f (parts_in sub (inside sub k)) at) e

-- where none may, the run ends
pub opened_nowhere : {A : Type 0} (sub : Sub) (n : ℕ) (f : Parts → Doing A) (at : State) → n ≡ 0
    → opened (inside sub n) f at ≡ Faulted fault.DepthLimit at.left at.host.asked
unfolding inside
opened_nowhere sub n f at e = ap (λ k. opened (inside sub k) f at) e
