-- The turns of a repetition, beside a loop that counts up.
use Rattle.std.proofs.Common.{◌≡◌, ℕ, zero, suc, ◌+◌, ◌-◌, ◌<◌, ◌≤◌, List, [], ◌++◌, Ok, Err, ap, ◌∙◌, refl, arith, append-nil}
use Rattle.eb_grammar.specs.Peg.{Spot, No, Deep, Rule, gather_from}

module _ {A : Type 0} (p : Rule (List A)) (n at : ℕ) (found : List A) (s : Spot) where
  step_of : at < n → gather_from p (n - at) found s ≡ gather_from p (suc (n - (at + 1))) found s
  step_of more = let e : n - at ≡ suc (n - (at + 1)) = omega arith in ap (λ k. gather_from p k found s) e

  go_suc : (k : ℕ) (xs : List A) (s' : Spot) → p s ≡ Ok (xs, s') → gather_from p (suc k) found s ≡ gather_from p k (found ++ xs) s'
  unfolding gather_from
  go_suc k xs s' e = rw e refl

  no_suc : (k : ℕ) → p s ≡ Err No → gather_from p (suc k) found s ≡ Ok (found, s)
  unfolding gather_from
  no_suc k e = rw e refl

  deep_suc : (k line : ℕ) → p s ≡ Err (Deep line) → gather_from p (suc k) found s ≡ Err (Deep line)
  unfolding gather_from
  deep_suc k line e = rw e refl

  -- one more turn
  pub turn_go : (xs : List A) (s' : Spot) → at < n → p s ≡ Ok (xs, s') → gather_from p (n - at) found s ≡ gather_from p (n - (at + 1)) (found ++ xs) s'
  turn_go xs s' more e = step_of more ∙ go_suc (n - (at + 1)) xs s' e

  -- the turn that is not taken
  pub turn_no : at < n → p s ≡ Err No → gather_from p (n - at) found s ≡ Ok (found, s)
  turn_no more e = step_of more ∙ no_suc (n - (at + 1)) e

  pub turn_deep : (line : ℕ) → at < n → p s ≡ Err (Deep line) → gather_from p (n - at) found s ≡ Err (Deep line)
  turn_deep line more e = step_of more ∙ deep_suc (n - (at + 1)) line e

  zero_is : gather_from p zero found s ≡ Ok (found, s)
  unfolding gather_from
  zero_is = refl

  -- no byte is left
  pub turn_out : n ≤ at → gather_from p (n - at) found s ≡ Ok (found, s)
  turn_out over = let e : n - at ≡ 0 = omega arith in ap (λ k. gather_from p k found s) e ∙ zero_is

  -- one that adds nothing
  pub turn_skip : (s' : Spot) → at < n → p s ≡ Ok ([], s') → gather_from p (n - at) found s ≡ gather_from p (n - (at + 1)) found s'
  turn_skip s' more e = turn_go [] s' more e ∙ ap (λ f. gather_from p (n - (at + 1)) f s') (append-nil found)
