-- Numbers above the limit are one number, also after a product or a sum.
use Rattle.std.proofs.Common.{◌≡◌, ℕ, zero, suc, ◌+◌, ◌*◌, ◌≤◌, ◌<◌, ◌⊎◌, inl, inr, sym, ap, ◌∙◌, arith}
use Rattle.std.proofs.Math.Nat.{mul-suc, suc-mul, min-eq_left}
use Rattle.bash_braces.specs.Counts.{capped}

either_way : (a : ℕ) → (a ≤ 65537) ⊎ (65537 ≤ a)
either_way a = grind arith

-- a number above the limit times at least 1
great_left : (a b : ℕ) → 65537 ≤ a → 0 < b → capped (a * b) ≡ 65537
great_left a zero great some = omega arith
great_left a (suc m) great some = omega (arith, mul-suc a m)

great_right : (a b : ℕ) → 65537 ≤ b → 0 < a → capped (a * b) ≡ 65537
great_right zero b great some = omega arith
great_right (suc m) b great some = omega (arith, suc-mul m b)

pub capped-mul : (a b : ℕ) → capped (capped a * capped b) ≡ capped (a * b)
capped-mul zero b = omega arith
capped-mul (suc m) zero = omega arith
capped-mul (suc m) (suc n) = on (either_way (suc m)) (either_way (suc n))
  where
    on : (suc m ≤ 65537) ⊎ (65537 ≤ suc m) → (suc n ≤ 65537) ⊎ (65537 ≤ suc n) → capped (capped (suc m) * capped (suc n)) ≡ capped (suc m * suc n)
    on (inl a) (inl b) = let left : capped (suc m) ≡ suc m = min-eq_left a in let right : capped (suc n) ≡ suc n = min-eq_left b in ap capped (ap (λ k. k * capped (suc n)) left ∙ ap (λ k. suc m * k) right)
    on (inr a) b = great_left (capped (suc m)) (capped (suc n)) (omega arith) (omega arith) ∙ sym (great_left (suc m) (suc n) a (omega arith))
    on (inl a) (inr b) = great_right (capped (suc m)) (capped (suc n)) (omega arith) (omega arith) ∙ sym (great_right (suc m) (suc n) b (omega arith))

pub capped-add : (a b : ℕ) → capped (capped a + capped b) ≡ capped (a + b)
capped-add a b = omega arith
