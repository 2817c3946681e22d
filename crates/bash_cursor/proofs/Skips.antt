-- Repetitions whose nodes are of no use: what was found before does not matter.
use Rattle.std.proofs.Common.{◌≡◌, ℕ, zero, suc, ◌+◌, ◌-◌, ◌<◌, ◌≤◌, List, [], ◌++◌, Ok, Err, ap, ◌∙◌, refl}
use Rattle.eb_grammar.specs.Peg.{Spot, Stop, No, Deep, Outcome, Rule, pure, either, and_then, gather_from}
use Rattle.bash_cursor.specs.Reads.{nodes_at, passed}
use Rattle.bash_cursor.proofs.Turns.{turn_go, turn_no, turn_out}

-- the outcome of a rule whose node is of no use
abbrev dropped : {A : Type 0} → Outcome A → Outcome (Unit {0})
dropped o = and_then {B = Unit {0}} o (λ _. pure tt)

abbrev outcome : {A : Type 0} → A → Spot → Outcome A
outcome a s = Ok (a, s)

abbrev end_or : Spot → Outcome (Unit {0}) → Spot
end_or s (Ok x) = x.1
end_or s (Err e) = s

never : (e : Stop) (v : Unit {0} × Spot) → Err e ≡ Ok v → ⊥
never e v h = cc

module _ {A : Type 0} (p : Rule (List A)) where
  Same : ℕ → Type 0
  Same n = (found other : List A) (s : Spot) → passed (gather_from p n found) s ≡ passed (gather_from p n other) s

  same_at : (n : ℕ) → Same n → (found other : List A) (s : Spot) → (o : Outcome (List A))
      → dropped (either o (λ more. gather_from p n (found ++ more)) (pure found) s) ≡ dropped (either o (λ more. gather_from p n (other ++ more)) (pure other) s)
  unfolding Same
  same_at n same found other s (Ok x) = same (found ++ x.0) (other ++ x.0) x.1
  same_at n same found other s (Err No) = refl
  same_at n same found other s (Err (Deep line)) = refl

  same : (n : ℕ) → Same n
  unfolding Same gather_from
  same zero found other s = refl
  same (suc n) found other s = same_at n (same n) found other s (p s)

  -- one more turn
  pub skip_go : (n at : ℕ) (s s' : Spot) (xs : List A) → at < n → p s ≡ Ok (xs, s')
      → passed (gather_from p (n - at) []) s ≡ passed (gather_from p (n - (at + 1)) []) s'
  unfolding Same
  skip_go n at s s' xs more e = ap dropped (turn_go p n at [] s xs s' more e) ∙ same (n - (at + 1)) xs [] s'

  -- the turn that is not taken
  pub skip_no : (n at : ℕ) (s : Spot) → at < n → p s ≡ Err No → passed (gather_from p (n - at) []) s ≡ outcome tt s
  skip_no n at s more e = ap dropped (turn_no p n at [] s more e)

  -- no byte is left
  pub skip_out : (n at : ℕ) (s : Spot) → n ≤ at → passed (gather_from p (n - at) []) s ≡ outcome tt s
  skip_out n at s over = ap dropped (turn_out p n at [] s over)

  known_at : (s s' : Spot) (o : Outcome (List A)) → p s ≡ o → dropped o ≡ outcome tt s' → p s ≡ outcome (nodes_at p s) s'
  unfolding nodes_at
  known_at s s' (Ok x) e h = let same : x.1 ≡ s' = ap (end_or s) h in rw e (ap (outcome x.0) same)
  known_at s s' (Err stop) e h = absurd (never stop (tt, s') h)

  -- the nodes have a name
  pub known : (s s' : Spot) → passed p s ≡ outcome tt s' → p s ≡ outcome (nodes_at p s) s'
  known s s' h = known_at s s' (p s) refl h
