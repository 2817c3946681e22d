-- What the next byte rules out.
use Rattle.std.proofs.Common.{◌≡◌, ℕ, Bool, true, false, List, [], ◌∷◌, Some, Err, ap, ◌&&◌, refl, nat_eq, arith}
use Rattle.std.proofs.lemmas.Bool.Decides.{nat_tests}
use Rattle.std.specs.Prelude.{slice_get}
use Rattle.std.specs.List.{starts_with}
use Rattle.eb_grammar.specs.Peg.{Spot, No, first, sees, word_of, byte_in}

-- both tests hold, so the first does
same : (a x : ℕ) (more : Bool) → (nat_eq a x && more) ≡ true → x ≡ a
same a x more h = grind (arith, nat_tests)

differ : (a b : ℕ) → nat_eq a b ≡ false → nat_eq b a ≡ false
differ a b d = grind (arith, nat_tests)

begins : (a : ℕ) (w xs : List ℕ) → starts_with nat_eq xs (a ∷ w) ≡ true → slice_get xs 0 ≡ Some a
begins a w [] h = cc
begins a w (x ∷ xs) h = ap Some (same a x (starts_with nat_eq xs w) h)

begins_not : (a b : ℕ) (w xs : List ℕ) → slice_get xs 0 ≡ Some a → nat_eq a b ≡ false → starts_with nat_eq xs (b ∷ w) ≡ false
begins_not a b w [] h d = refl
begins_not a b w (x ∷ xs) h d = let e : x ≡ a = cc in rw e (rw (differ a b d) refl)

module _ (a : ℕ) (w : List ℕ) (s : Spot) where
  pub first_byte : sees (a ∷ w) s ≡ true → first s ≡ Some a
  unfolding sees first
  first_byte h = begins a w s.rest h

  -- a byte of a class that lacks it does not stand there
  pub no_byte : (test : ℕ → Bool) → sees (a ∷ w) s ≡ true → test a ≡ false → byte_in test s ≡ Err No
  unfolding byte_in
  no_byte test h d = rw (first_byte h, d) refl

  -- nor does a word that begins otherwise
  pub no_word : (b : ℕ) (v : List ℕ) → sees (a ∷ w) s ≡ true → nat_eq a b ≡ false → word_of (b ∷ v) s ≡ Err No
  unfolding word_of sees first
  no_word b v h d = rw (begins_not a b v s.rest (first_byte h) d) refl

-- a word that is not seen is not read
pub not_seen : (w : List ℕ) (s : Spot) → sees w s ≡ false → word_of w s ≡ Err No
unfolding word_of
not_seen w s h = rw h refl
