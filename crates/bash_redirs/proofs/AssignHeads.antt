-- Where what an assignment begins with has no reading, the assignment has none.
use Rattle.std.proofs.Common.{◌≡◌, Option, Ok, Err, refl}
use Rattle.eb_grammar.specs.Names.{name}
use Rattle.eb_grammar.specs.Params.{subscript}
use Rattle.eb_grammar.specs.Peg.{Spot, No, Deep, Rule, Outcome, and_then, lit, maybe, stands}
use Rattle.eb_grammar.specs.Redirections.{assign}
use Rattle.eb_grammar.specs.Rules.{Rules}
use Rattle.grammar_laws.specs.Nestings.{assign_head}

module _ {A B C : Type 0} (q : Rule B) (f : A → Rule C) (same : (a : A) (s : Spot) → q s ≡ Err No → f a s ≡ Err No) where
  -- what comes after the first rule has no reading either
  through : (o : Outcome A) → and_then o (λ _. q) ≡ Err No → and_then o f ≡ Err No
  through (Ok x) e = same x.0 x.1 e
  through (Err No) e = refl
  through (Err (Deep line)) e = absurd (cc)

module _ {A B : Type 0} (f : A → Rule B) where
  none_after : (o : Outcome A) → o ≡ Err No → and_then o f ≡ Err No
  none_after o e = rw e refl

pub no_head : (o : Option Rules) (s : Spot) → assign_head o s ≡ Err No → assign o s ≡ Err No
unfolding assign
no_head o s e =
    through _ _ (λ called t. through _ _ (λ index u. through _ _ (λ append v. none_after _ (lit "=" v)) (stands (lit "+") u)) (maybe (subscript o) t)) (name s) e
