-- What the operators of the notation keep: a relation between the place where a rule begins and the place where it ends.
use Rattle.std.proofs.Common.{◌≡◌, ℕ, zero, suc, List, [], ◌++◌, length, Ok, Err, ap, subst, refl}
use Rattle.eb_grammar.specs.Peg.{Spot, Stop, No, Deep, Rule, Outcome, ◌>>=◌, ◌</>◌, pure, either, and_then, not_at, gather, gather_from}

never : {A : Type 0} (e : Stop) (v : A × Spot) → Err e ≡ Ok v → ⊥
never e v h = cc

abbrev end_or : {A : Type 0} → Spot → Outcome A → Spot
end_or s (Ok x) = x.1
end_or s (Err e) = s

same_end : {A : Type 0} (a b : A) (t u : Spot) → pure a t ≡ pure b u → t ≡ u
same_end {A} a b t u h = ap (end_or {A = A} t) h

module _ (R : Spot → Spot → Type 0) (same : (s : Spot) → R s s) (join : (a b c : Spot) → R a b → R b c → R a c) where
  -- the relation holds between the beginning and the end of each reading
  abbrev pub Keeps : {A : Type 0} → Rule A → Type 0
  Keeps {A} p = (s s' : Spot) (x : A) → p s ≡ Ok (x, s') → R s s'

  pub pure_keeps : {A : Type 0} (a : A) → Keeps (pure a)
  pure_keeps a s s' x h = subst (λ t. R s t) (same_end a x s s' h) (same s)

  bind_at : {A B : Type 0} (p : Rule A) (f : A → Rule B) (s s' : Spot) (y : B) → Keeps p → ((a : A) → Keeps (f a)) → (o : Outcome A) → p s ≡ o
      → and_then o f ≡ Ok (y, s') → R s s'
  bind_at p f s s' y kp kf (Ok x) e h = join s x.1 s' (kp s x.1 x.0 e) (kf x.0 x.1 s' y h)
  bind_at p f s s' y kp kf (Err e') e h = absurd (never e' (y, s') h)

  pub bind_keeps : {A B : Type 0} (p : Rule A) (f : A → Rule B) → Keeps p → ((a : A) → Keeps (f a)) → Keeps (p >>= f)
  bind_keeps p f kp kf s s' y h = bind_at p f s s' y kp kf (p s) refl h

  either_at : {A B : Type 0} (p : Rule A) (f : A → Rule B) (q : Rule B) (s s' : Spot) (y : B) → Keeps p → ((a : A) → Keeps (f a)) → Keeps q → (o : Outcome A) → p s ≡ o
      → either o f q s ≡ Ok (y, s') → R s s'
  either_at p f q s s' y kp kf kq (Ok x) e h = join s x.1 s' (kp s x.1 x.0 e) (kf x.0 x.1 s' y h)
  either_at p f q s s' y kp kf kq (Err No) e h = kq s s' y h
  either_at p f q s s' y kp kf kq (Err (Deep line)) e h = absurd (never (Deep line) (y, s') h)

  pub either_keeps : {A B : Type 0} (p : Rule A) (f : A → Rule B) (q : Rule B) → Keeps p → ((a : A) → Keeps (f a)) → Keeps q → Keeps (λ s. either (p s) f q s)
  either_keeps p f q kp kf kq s s' y h = either_at p f q s s' y kp kf kq (p s) refl h

  pub choice_keeps : {A : Type 0} (p q : Rule A) → Keeps p → Keeps q → Keeps (p </> q)
  choice_keeps p q kp kq = either_keeps p pure q kp pure_keeps kq

  not_at_at : {A : Type 0} (p : Rule A) (s s' : Spot) (y : Unit {0}) → (o : Outcome A) → either {B = Unit {0}} o (λ _ _. Err No) (pure tt) s ≡ Ok (y, s') → R s s'
  not_at_at p s s' y (Ok x) h = absurd (never No (y, s') h)
  not_at_at p s s' y (Err No) h = pure_keeps {A = Unit {0}} tt s s' y h
  not_at_at p s s' y (Err (Deep line)) h = absurd (never (Deep line) (y, s') h)

  pub not_at_keeps : {A : Type 0} (p : Rule A) → Keeps (not_at p)
  not_at_keeps p s s' y h = not_at_at p s s' y (p s) h

  from_keeps : {A : Type 0} (p : Rule (List A)) → Keeps p → (n : ℕ) (found : List A) → Keeps (gather_from p n found)
  unfolding gather_from
  from_keeps p kp zero found = pure_keeps found
  from_keeps p kp (suc n) found = either_keeps p (λ more. gather_from p n (found ++ more)) (pure found) kp (λ more. from_keeps p kp n (found ++ more)) (pure_keeps found)

  pub gather_keeps : {A : Type 0} (p : Rule (List A)) → Keeps p → Keeps (gather p)
  gather_keeps p kp s s' x h = from_keeps p kp (length s.rest) [] s s' x h
