-- What stands after a rule is read with it, and its node thrown away.
use Rattle.std.proofs.Common.{◌≡◌, refl}
use Rattle.eb_grammar.specs.Peg.{Spot, Rule, ◌>>=◌, ◌>>◌, followed_by, pure}
use Rattle.bash_reading.proofs.Binds.{regrouped}

pub followed_then : {A B D : Type 0} (p : Rule A) (q : Rule B) (f : A → Rule D) (s : Spot) → (followed_by p q >>= f) s ≡ (p >>= (λ x. q >> f x)) s
followed_then p q f = regrouped p (λ x. q >> pure x) f (λ x. q >> f x) (λ x. regrouped q (λ _. pure x) f (λ _. f x) (λ _ t. refl))
