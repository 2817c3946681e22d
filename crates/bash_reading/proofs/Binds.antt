-- Rules in a row, and choices, grouped otherwise.
use Rattle.std.proofs.Common.{◌≡◌, Ok, Err, ◌∙◌, refl}
use Rattle.eb_grammar.specs.Peg.{Spot, No, Deep, Rule, Outcome, ◌>>=◌, ◌</>◌, pure, and_then, either}

-- ---- one rule after another

module _ {A B D : Type 0} (q : A → Rule B) (f : B → Rule D) where
  after_both : (o : Outcome A) → and_then (and_then o q) f ≡ and_then o (λ a. q a >>= f)
  after_both (Ok x) = refl
  after_both (Err e) = refl

module _ {A B : Type 0} (f g : A → Rule B) (same : (a : A) (s : Spot) → f a s ≡ g a s) where
  pub then_same : (o : Outcome A) → and_then o f ≡ and_then o g
  then_same (Ok x) = same x.0 x.1
  then_same (Err e) = refl

-- p (q f) is (p q) f, where what comes after p is the same
pub regrouped : {A B D : Type 0} (p : Rule A) (q : A → Rule B) (f : B → Rule D) (g : A → Rule D) → ((a : A) (s : Spot) → (q a >>= f) s ≡ g a s)
    → (s : Spot) → ((p >>= q) >>= f) s ≡ (p >>= g) s
regrouped p q f g same s = after_both q f (p s) ∙ then_same (λ a. q a >>= f) g same (p s)

-- ---- choices

module _ {A : Type 0} (q r : Rule A) (s : Spot) where
  or_twice : (o : Outcome A) → either o pure (λ t. either (q t) pure r t) s ≡ either (either o pure q s) pure r s
  or_twice (Ok x) = refl
  or_twice (Err No) = refl
  or_twice (Err (Deep line)) = refl

  or_same : q s ≡ r s → (o : Outcome A) → either o pure q s ≡ either o pure r s
  or_same same (Ok x) = refl
  or_same same (Err No) = same
  or_same same (Err (Deep line)) = refl

module _ {A : Type 0} (p q r : Rule A) (s : Spot) where
  pub first_two : (p </> (q </> r)) s ≡ ((p </> q) </> r) s
  first_two = or_twice q r s (p s)

  pub or_other : q s ≡ r s → (p </> q) s ≡ (p </> r) s
  or_other same = or_same q r s same (p s)

module _ {A : Type 0} (a b c r : Rule A) (s : Spot) where
  pub first_three : (a </> (b </> (c </> r))) s ≡ ((a </> (b </> c)) </> r) s
  first_three = or_other a (b </> (c </> r)) ((b </> c) </> r) s (first_two b c r s) ∙ first_two a (b </> c) r s

module _ {A : Type 0} (a b c d r : Rule A) (s : Spot) where
  first_four : (a </> (b </> (c </> (d </> r)))) s ≡ ((a </> (b </> (c </> d))) </> r) s
  first_four = or_other a (b </> (c </> (d </> r))) ((b </> (c </> d)) </> r) s (first_three b c d r s) ∙ first_two a (b </> (c </> d)) r s

module _ {A : Type 0} (a b c d e r : Rule A) (s : Spot) where
  pub first_five : (a </> (b </> (c </> (d </> (e </> r))))) s ≡ ((a </> (b </> (c </> (d </> e)))) </> r) s
  first_five = or_other a (b </> (c </> (d </> (e </> r)))) ((b </> (c </> (d </> e))) </> r) s (first_four b c d e r s) ∙ first_two a (b </> (c </> (d </> e))) r s
