-- A repetition with lines before each turn, and lines at its end: the same lines stand before the first turn and after each.
use Rattle.std.proofs.Common.{◌≡◌, ℕ, zero, suc, ◌≤◌, List, [], ◌∷◌, ◌++◌, length, Ok, Err, ap, sym, ◌∙◌, refl, arith}
use Rattle.eb_grammar.specs.Laws.{Keeps, TakesBytes}
use Rattle.eb_grammar.specs.Peg.{Spot, No, Deep, Rule, Outcome, ◌<$>◌, ◌>>=◌, ◌>>◌, and_then, either, followed_by, gather_from, many, pure, single}
use Rattle.eb_grammar.proofs.Repetition.{enough}
use Rattle.bash_reading.proofs.Binds.{regrouped, then_same}

-- l always has a reading, unless it nests too deep; a turn is l and then q
module _ {A : Type 0} (l : Rule (Unit {0})) (reads : (s : Spot) → l s ≡ Err No → ⊥) (next q : Rule A) (is : (s : Spot) → next s ≡ (l >> q) s) where
  abbrev step : Rule A
  step = followed_by q l

  abbrev ended : ℕ → List A → Rule (List A)
  ended n found = followed_by (gather_from (single <$> next) n found) l

  abbrev begun : ℕ → List A → Rule (List A)
  begun n found = l >> gather_from (single <$> step) n found

  Same : ℕ → Type 0
  Same n = (found : List A) (s : Spot) → ended n found s ≡ begun n found s

  none : (found : List A) (s : Spot) → ended zero found s ≡ begun zero found s
  unfolding gather_from
  none found s = refl

  -- where a turn has a reading
  module _ (n : ℕ) (found : List A) (s : Spot) (x : Unit {0} × Spot) (e : l s ≡ Ok x) (y : A × Spot) (h : q x.1 ≡ Ok y) where
    went : ended (suc n) found s ≡ ended n (found ++ y.0 ∷ []) y.1
    unfolding gather_from
    went = rw (is s, e, h) refl

    more : (o : Outcome (Unit {0})) → l y.1 ≡ o → begun n (found ++ y.0 ∷ []) y.1 ≡ begun (suc n) found s
    unfolding gather_from
    more (Ok z) k = rw (e, h, k) refl
    more (Err No) k = absurd (reads y.1 k)
    more (Err (Deep line)) k = rw (e, h, k) refl

  by_turn : (n : ℕ) → Same n → (found : List A) (s : Spot) (x : Unit {0} × Spot) → l s ≡ Ok x → (o : Outcome A) → q x.1 ≡ o → ended (suc n) found s ≡ begun (suc n) found s
  unfolding gather_from Same
  by_turn n same found s x e (Ok y) h = went n found s x e y h ∙ same (found ++ y.0 ∷ []) y.1 ∙ more n found s x e y h (l y.1) refl
  by_turn n same found s x e (Err No) h = rw (is s, e, h, e) refl
  by_turn n same found s x e (Err (Deep line)) h = rw (is s, e, h) refl

  by_lines : (n : ℕ) → Same n → (found : List A) (s : Spot) (o : Outcome (Unit {0})) → l s ≡ o → ended (suc n) found s ≡ begun (suc n) found s
  unfolding gather_from
  by_lines n same found s (Ok x) e = by_turn n same found s x e (q x.1) refl
  by_lines n same found s (Err No) e = absurd (reads s e)
  by_lines n same found s (Err (Deep line)) e = rw (is s, e) refl

  lined : (n : ℕ) → Same n
  unfolding Same
  lined zero found s = none found s
  lined (suc n) found s = by_lines n (lined n) found s (l s) refl

  module _ (keeps : Keeps l) (takes : TakesBytes (single <$> step)) where
    bounded : (s : Spot) (o : Outcome (Unit {0})) → l s ≡ o → begun (length s.rest) [] s ≡ (l >> many step) s
    bounded s (Ok x) e = rw e (let less : length (x.1.rest) ≤ length s.rest = keeps s x.1 x.0 e in enough (single <$> step) takes (length s.rest) (length (x.1.rest)) [] x.1 (omega arith) (omega arith))
    bounded s (Err stop) e = rw e refl

    once : (s : Spot) → followed_by (many next) l s ≡ (l >> many step) s
    unfolding Same
    once s = lined (length s.rest) [] s ∙ bounded s (l s) refl

    -- what is made of a first node and of the nodes of the repetition
    module _ {F W : Type 0} (first : Rule F) (made : F → List A → W) where
      others : F → Rule W
      others x = many next >>= (λ xs. pure (made x xs))

      steps : F → Rule W
      steps x = many step >>= (λ xs. pure (made x xs))

      then_lines : (x : F) (s : Spot) → (others x >>= (λ w. l >> pure w)) s ≡ (l >> steps x) s
      unfolding others steps
      then_lines x s =
          regrouped (many next) _ _ (λ xs. l >> pure (made x xs)) (λ xs t. refl) s
          ∙ sym (regrouped (many next) (λ xs. l >> pure xs) (λ xs. pure (made x xs)) (λ xs. l >> pure (made x xs)) (λ xs. regrouped l _ _ _ (λ _ t. refl)) s)
          ∙ ap (λ o. and_then o (λ xs. pure (made x xs))) (once s)
          ∙ regrouped l (λ _. many step) (λ xs. pure (made x xs)) (λ _. steps x) (λ _ t. refl) s

      pub all_once : (s : Spot) → followed_by (first >>= (λ x. many next >>= (λ xs. pure (made x xs)))) l s ≡ (first >>= (λ x. l >> (many step >>= (λ xs. pure (made x xs))))) s
      unfolding others steps
      all_once s = regrouped first others (λ w. l >> pure w) (λ x. l >> steps x) then_lines s
