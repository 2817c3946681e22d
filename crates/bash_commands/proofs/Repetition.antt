-- A repetition, told by its first turn.
use Rattle.std.proofs.Common.{◌≡◌, ℕ, zero, suc, ◌<◌, List, [], ◌∷◌, ◌++◌, length, Ok, Err, ap, sym, ◌∙◌, refl, arith, append_assoc}
use Rattle.eb_grammar.specs.Peg.{Spot, No, Deep, Rule, Outcome, ◌<$>◌, and_then, either, gather_from, many, pure, single}
use Rattle.eb_grammar.specs.Laws.{TakesBytes}
use Rattle.eb_grammar.proofs.Repetition.{enough}

module _ {A : Type 0} (p : Rule (List A)) where
  turn_is : (n : ℕ) (found : List A) (s : Spot) → gather_from p (suc n) found s ≡ either (p s) (λ more. gather_from p n (found ++ more)) (pure found) s
  unfolding gather_from
  turn_is n found s = refl

  none_is : (found : List A) (s : Spot) → gather_from p zero found s ≡ Ok (found, s)
  unfolding gather_from
  none_is found s = refl

  -- ---- it has a reading, unless it nests too deep

  Reads : ℕ → Type 0
  Reads n = (found : List A) (s : Spot) → gather_from p n found s ≡ Err No → ⊥

  reads_at : (n : ℕ) → Reads n → (found : List A) (s : Spot) (o : Outcome (List A)) → either o (λ more. gather_from p n (found ++ more)) (pure found) s ≡ Err No → ⊥
  unfolding Reads
  reads_at n reads found s (Ok x) e = reads (found ++ x.0) x.1 e
  reads_at n reads found s (Err No) e = absurd (cc)
  reads_at n reads found s (Err (Deep line)) e = absurd (cc)

  reads : (n : ℕ) → Reads n
  unfolding Reads
  reads zero found s e = absurd (shut (sym (none_is found s) ∙ e))
    where
      shut : pure found s ≡ Err No → ⊥
      shut h = cc
  reads (suc n) found s e = reads_at n (reads n) found s (p s) (sym (turn_is n found s) ∙ e)

  -- ---- what was found before comes first

  abbrev after : List A → Outcome (List A) → Outcome (List A)
  after found o = and_then o (λ more. pure (found ++ more))

  Shifts : ℕ → Type 0
  Shifts n = (found more : List A) (s : Spot) → gather_from p n (found ++ more) s ≡ after found (gather_from p n more s)

  shifts_at : (n : ℕ) → Shifts n → (found more : List A) (s : Spot) (o : Outcome (List A))
      → either o (λ xs. gather_from p n ((found ++ more) ++ xs)) (pure (found ++ more)) s ≡ after found (either o (λ xs. gather_from p n (more ++ xs)) (pure more) s)
  unfolding Shifts
  shifts_at n shifts found more s (Ok x) = ap (λ xs. gather_from p n xs x.1) (append_assoc found more x.0) ∙ shifts found (more ++ x.0) x.1
  shifts_at n shifts found more s (Err No) = refl
  shifts_at n shifts found more s (Err (Deep line)) = refl

  shifts : (n : ℕ) → Shifts n
  unfolding Shifts
  shifts zero found more s = none_is (found ++ more) s ∙ sym (ap (after found) (none_is more s))
  shifts (suc n) found more s = turn_is n (found ++ more) s ∙ shifts_at n (shifts n) found more s (p s) ∙ sym (ap (after found) (turn_is n more s))

  module _ (takes : TakesBytes p) (s : Spot) where
    once : gather_from p (length s.rest) [] s ≡ either (p s) (gather_from p (length s.rest)) (pure []) s
    once = enough p takes (length s.rest) (suc (length s.rest)) [] s (omega arith) (omega arith) ∙ turn_is (length s.rest) [] s

    went : (xs : List A) (s' : Spot) → p s ≡ Ok (xs, s') → gather_from p (length s.rest) [] s ≡ gather_from p (length s.rest) xs s'
    went xs s' e = once ∙ rw e refl

    less : (xs : List A) (s' : Spot) → p s ≡ Ok (xs, s') → length s'.rest < length s.rest
    less xs s' e = takes.takes s s' xs e

-- it is p's first node and the others, where p has one
module _ {A : Type 0} (p : Rule A) (takes : TakesBytes (single <$> p)) (s : Spot) where
  pub many_more : (x : A) (s' : Spot) → p s ≡ Ok (x, s') → many p s ≡ and_then (many p s') (λ others. pure (x ∷ others))
  unfolding Shifts
  many_more x s' e =
      let is : (single <$> p) s ≡ Ok (x ∷ [], s') = rw e refl in
      let fewer : length s'.rest < length s.rest = less (single <$> p) takes s (x ∷ []) s' is in
      went (single <$> p) takes s (x ∷ []) s' is
      ∙ enough (single <$> p) takes (length s.rest) (length s'.rest) (x ∷ []) s' (omega arith) (omega arith)
      ∙ shifts (single <$> p) (length s'.rest) (x ∷ []) [] s'

  pub many_none : p s ≡ Err No → many p s ≡ Ok ([], s)
  many_none e = once (single <$> p) takes s ∙ rw e refl

  pub many_deep : (line : ℕ) → p s ≡ Err (Deep line) → many p s ≡ Err (Deep line)
  many_deep line e = once (single <$> p) takes s ∙ rw e refl

-- it has a reading, unless it nests too deep
module _ {A : Type 0} (p : Rule A) (s : Spot) where
  pub many_reads : many p s ≡ Err No → ⊥
  unfolding Reads
  many_reads e = reads (single <$> p) (length s.rest) [] s e
