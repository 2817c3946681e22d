-- Laws of the notation: a shared beginning is read once, and a repetition needs no bound.
use Rattle.std.proofs.Common.{◌≡◌, ℕ, zero, suc, ◌<◌, ◌≤◌, List, ◌++◌, length, Ok, Err, sym, ◌∙◌, refl, arith}
use Rattle.eb_grammar.specs.Peg.{Spot, No, Deep, Rule, Outcome, ◌>>=◌, ◌</>◌, pure, either, gather_from}
use Rattle.eb_grammar.specs.Laws.{TakesBytes}

module _ {A B : Type 0} (p : Rule A) (f g : A → Rule B) (s : Spot) where
  after_node : (x : A × Spot) → p s ≡ Ok x → (o : Outcome B) → f x.0 x.1 ≡ o → ((p >>= f) </> (p >>= g)) s ≡ (p >>= (λ a. f a </> g a)) s
  after_node x e (Ok y) h = rw (e, h) refl
  after_node x e (Err No) h = rw (e, h, e) refl
  after_node x e (Err (Deep line)) h = rw (e, h) refl

  by_first : (o : Outcome A) → p s ≡ o → ((p >>= f) </> (p >>= g)) s ≡ (p >>= (λ a. f a </> g a)) s
  by_first (Ok x) e = after_node x e (f x.0 x.1) refl
  by_first (Err No) e = rw (e, e) refl
  by_first (Err (Deep line)) e = rw e refl

  -- p f / p g is p (f / g)
  pub factor : ((p >>= f) </> (p >>= g)) s ≡ (p >>= (λ a. f a </> g a)) s
  factor = by_first (p s) refl

module _ {A : Type 0} (p : Rule (List A)) where
  turn_is : (n : ℕ) (found : List A) (s : Spot) → gather_from p (suc n) found s ≡ either (p s) (λ more. gather_from p n (found ++ more)) (pure found) s
  unfolding gather_from
  turn_is n found s = refl

  none_is : (found : List A) (s : Spot) → gather_from p zero found s ≡ Ok (found, s)
  unfolding gather_from
  none_is found s = refl

  Again : ℕ → ℕ → Type 0
  Again n m = (found : List A) (s : Spot) → length s.rest ≤ n → length s.rest ≤ m → gather_from p n found s ≡ gather_from p m found s

  enough_at : TakesBytes p → (n m : ℕ) → Again n m → (found : List A) (s : Spot) → length s.rest ≤ suc n → length s.rest ≤ suc m → (o : Outcome (List A)) → p s ≡ o
      → either (p s) (λ more. gather_from p n (found ++ more)) (pure found) s ≡ either (p s) (λ more. gather_from p m (found ++ more)) (pure found) s
  unfolding Again
  enough_at t n m again found s a b (Ok x) e = rw e (let less : length (x.1.rest) < length s.rest = t.takes s x.1 x.0 e in again (found ++ x.0) x.1 (omega arith) (omega arith))
  enough_at t n m again found s a b (Err No) e = rw e refl
  enough_at t n m again found s a b (Err (Deep line)) e = rw e refl

  -- the number of turns does not matter, where it is as large as the number of bytes
  pub enough : TakesBytes p → (n m : ℕ) (found : List A) (s : Spot) → length s.rest ≤ n → length s.rest ≤ m → gather_from p n found s ≡ gather_from p m found s
  unfolding Again
  enough t zero zero found s a b = refl
  enough t zero (suc m) found s a b = none_is found s ∙ sym (turn_is m found s ∙ rw (t.stops s (omega arith)) refl)
  enough t (suc n) zero found s a b = turn_is n found s ∙ rw (t.stops s (omega arith)) refl ∙ sym (none_is found s)
  enough t (suc n) (suc m) found s a b = turn_is n found s ∙ enough_at t n m (enough t n m) found s a b (p s) refl ∙ sym (turn_is m found s)
