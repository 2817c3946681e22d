-- Rules that open a nesting, at the number of nestings that may still be opened.
use Rattle.std.proofs.Common.{◌≡◌, ℕ, zero, suc, ◌-◌, ◌<◌, true, false, List, Option, None, Some, Ok, Err, ap, ◌∙◌, refl, arith}
use Rattle.eb_grammar.specs.Peg.{Spot, Stop, No, Deep, Rule, sees, word_of, nest}
use Rattle.eb_grammar.specs.Rules.{Rules}
use Rattle.eb_grammar.specs.Grammar.{inside, rules_in}

module _ {A : Type 0} (w : List ℕ) (p : Rules → Rule A) (s : Spot) where
  -- where w does not stand, the rule has no reading
  pub nest_no_at : (d : Option Rules) → sees w s ≡ false → nest d (word_of w) p s ≡ Err No
  unfolding nest word_of
  nest_no_at None e = rw e refl
  nest_no_at (Some r) e = rw e refl

  pub nest_no : (n : ℕ) → sees w s ≡ false → nest (inside n) (word_of w) p s ≡ Err No
  nest_no n e = nest_no_at (inside n) e

  nest_zero : sees w s ≡ true → nest (inside zero) (word_of w) p s ≡ Err (Deep s.line)
  unfolding nest word_of inside
  nest_zero e = rw e refl

  -- where no more may be opened
  pub nest_deep : (n : ℕ) → n ≡ 0 → sees w s ≡ true → nest (inside n) (word_of w) p s ≡ Err (Deep s.line)
  nest_deep n none e = ap (λ n. nest (inside n) (word_of w) p s) none ∙ nest_zero e

  nest_suc : (n : ℕ) → sees w s ≡ true → nest (inside (suc n)) (word_of w) p s ≡ p (rules_in (inside n)) s
  unfolding nest word_of inside
  nest_suc n e = rw e refl

  pub nest_in : (n : ℕ) → 0 < n → sees w s ≡ true → nest (inside n) (word_of w) p s ≡ p (rules_in (inside (n - 1))) s
  nest_in n some e = let e' : n ≡ suc (n - 1) = omega arith in ap (λ n. nest (inside n) (word_of w) p s) e' ∙ nest_suc (n - 1) e

-- the same for any rule that tells whether the nesting is opened
module _ {A B : Type 0} (first : Rule B) (p : Rules → Rule A) (s : Spot) where
  nest_err_at : (d : Option Rules) (e : Stop) → first s ≡ Err e → nest d first p s ≡ Err e
  unfolding nest
  nest_err_at None No h = rw h refl
  nest_err_at None (Deep l) h = rw h refl
  nest_err_at (Some r) No h = rw h refl
  nest_err_at (Some r) (Deep l) h = rw h refl

  pub nest_first_err : (n : ℕ) (e : Stop) → first s ≡ Err e → nest (inside n) first p s ≡ Err e
  nest_first_err n e h = nest_err_at (inside n) e h

  nest_first_zero : (x : B × Spot) → first s ≡ Ok x → nest (inside zero) first p s ≡ Err (Deep s.line)
  unfolding nest inside
  nest_first_zero x h = rw h refl

  pub nest_first_deep : (n : ℕ) (x : B × Spot) → n ≡ 0 → first s ≡ Ok x → nest (inside n) first p s ≡ Err (Deep s.line)
  nest_first_deep n x none h = ap (λ n. nest (inside n) first p s) none ∙ nest_first_zero x h

  nest_first_suc : (n : ℕ) (x : B × Spot) → first s ≡ Ok x → nest (inside (suc n)) first p s ≡ p (rules_in (inside n)) s
  unfolding nest inside
  nest_first_suc n x h = rw h refl

  pub nest_first_in : (n : ℕ) (x : B × Spot) → 0 < n → first s ≡ Ok x → nest (inside n) first p s ≡ p (rules_in (inside (n - 1))) s
  nest_first_in n x some h = let e' : n ≡ suc (n - 1) = omega arith in ap (λ n. nest (inside n) first p s) e' ∙ nest_first_suc (n - 1) x h
