-- Parts of a run, one after another.
use Rattle.std.proofs.Common.{◌≡◌, refl}
use Rattle.shell_state.specs.Outcome.{Outcome, Ended, Faulted, Doing, and_then, ◌>>=◌, pure}

pub associative : {A B C : Type 0} (r : Outcome A) (f : A → Doing B) (g : B → Doing C)
    → and_then (and_then r f) g ≡ and_then r (λ a. f a >>= g)
associative (Ended a at) f g = refl
associative (Faulted fault left asked) f g = refl

pub handed_on : {A : Type 0} (r : Outcome A) → and_then r pure ≡ r
handed_on (Ended a at) = refl
handed_on (Faulted fault left asked) = refl
