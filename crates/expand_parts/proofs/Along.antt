-- What two things have in common that come to the same.
use Rattle.std.proofs.Common.{◌≡◌, ℕ, Bool, true, false, Result, Ok, Err, sym, subst, ◌∙◌}
use Rattle.std.specs.Prelude.{if◌then◌else◌}
use Rattle.shell_state.specs.Outcome.{Doing, Outcome}
use Rattle.shell_state.specs.State.{State}
use Rattle.shell_state.specs.declared.stop.Stop.{Stop}
use Rattle.shell_state.specs.declared.stop.Stop.TheVariants as stop
use Rattle.word_meaning.specs.Marks.{Given}
use Rattle.expand_parts.specs.Acts.{Acts}
use Rattle.expand_parts.specs.Rest.{Sub}
use Rattle.expand_parts.specs.declared.level.Act.{Act}

pub along : (result : Result Act Stop) (sub : Sub) (f g : Outcome Given) (n : ℕ) (at : State) → f ≡ g → Acts result sub g n at → Acts result sub f n at
along (Ok a) sub f g n at e h = e ∙ h
along (Err (stop.Fault why)) sub f g n at e h = e ∙ h
along (Err stop.Failed) sub f g n at e h = absurd h
along (Err stop.Memory) sub f g n at e h = tt

-- of two ways the first, or the second
pub first_way : (result : Result Act Stop) (sub : Sub) (b : Bool) (p q : Doing Given) (n : ℕ) (at : State) → b ≡ true → Acts result sub (p at) n at
    → Acts result sub ((if b then p else q) at) n at
first_way result sub b p q n at e h = subst (λ c. Acts result sub ((if c then p else q) at) n at) (sym e) h

pub second_way : (result : Result Act Stop) (sub : Sub) (b : Bool) (p q : Doing Given) (n : ℕ) (at : State) → b ≡ false → Acts result sub (q at) n at
    → Acts result sub ((if b then p else q) at) n at
second_way result sub b p q n at e h = subst (λ c. Acts result sub ((if c then p else q) at) n at) (sym e) h
