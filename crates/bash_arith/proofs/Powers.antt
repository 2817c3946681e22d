-- Squaring a base and halving its exponent, under a modulus.
use Rattle.std.proofs.Common.{arith, ◌≡◌, ℕ, zero, suc, ◌+◌, ◌*◌, ◌/◌, ◌%◌, ◌^◌, ap, sym, ◌∙◌}
use Rattle.std.proofs.Math.Nat.{mul_comm, mul_assoc, one-mul, mul-one, pow-zero, pow-suc, mul-mul-mul_comm, mul_right_comm}
use Rattle.std.proofs.lemmas.Nat.{mul-mod_first, pow-add}

mul-mod : (a b m : ℕ) → (a * (b % m)) % m ≡ (a * b) % m
mul-mod a b m = ap (λ (x : ℕ). x % m) (mul_comm a (b % m)) ∙ mul-mod_first b a m ∙ ap (λ (x : ℕ). x % m) (mul_comm b a)

-- a factor and a power whose base is cut to m
mod-pow : (b m e a : ℕ) → (a * (b % m) ^ e) % m ≡ (a * b ^ e) % m
mod-pow b m zero a = ap (λ (x : ℕ). (a * x) % m) (pow-zero (b % m) ∙ sym (pow-zero b))
mod-pow b m (suc e) a =
    ap (λ (x : ℕ). x % m) (ap (λ (x : ℕ). a * x) (pow-suc (b % m) e) ∙ sym (mul_assoc a ((b % m) ^ e) (b % m)))
    ∙ mul-mod (a * (b % m) ^ e) b m
    ∙ ap (λ (x : ℕ). x % m) (mul_right_comm a ((b % m) ^ e) b)
    ∙ mod-pow b m e (a * b)
    ∙ ap (λ (x : ℕ). x % m) (mul_right_comm a b (b ^ e) ∙ mul_assoc a (b ^ e) b ∙ ap (λ (x : ℕ). a * x) (sym (pow-suc b e)))

squared : (b k : ℕ) → (b * b) ^ k ≡ b ^ (k + k)
squared b k = go k ∙ sym (pow-add b k k)
  where
    go : (k : ℕ) → (b * b) ^ k ≡ b ^ k * b ^ k
    go zero = pow-zero (b * b) ∙ sym (ap (λ (x : ℕ). x * x) (pow-zero b))
    go (suc k) = pow-suc (b * b) k ∙ ap (λ (x : ℕ). x * (b * b)) (go k) ∙ mul-mul-mul_comm (b ^ k) (b ^ k) b b ∙ sym (ap (λ (x : ℕ). x * x) (pow-suc b k))

even_turn : (p b k : ℕ) → (k % 2 ≡ 1 → ⊥) → p * (b * b) ^ (k / 2) ≡ p * b ^ k
even_turn p b k h = ap (λ (x : ℕ). p * x) (squared b (k / 2) ∙ ap (λ (x : ℕ). b ^ x) (omega arith))

odd_turn : (p b k : ℕ) → k % 2 ≡ 1 → p * b * (b * b) ^ (k / 2) ≡ p * b ^ k
odd_turn p b k h =
    ap (λ (x : ℕ). p * b * x) (squared b (k / 2)) ∙ mul_right_comm p b _ ∙ mul_assoc p _ b
    ∙ ap (λ (x : ℕ). p * x) (sym (pow-suc b (k / 2 + k / 2)) ∙ ap (λ (x : ℕ). b ^ x) (omega arith))

pub even_step : (p b e m : ℕ) → (e % 2 ≡ 1 → ⊥) → (p * ((b * b) % m) ^ (e / 2)) % m ≡ (p * b ^ e) % m
even_step p b e m h = mod-pow (b * b) m (e / 2) p ∙ ap (λ (x : ℕ). x % m) (even_turn p b e h)

pub odd_step : (p b e m : ℕ) → e % 2 ≡ 1 → ((p * b) % m * ((b * b) % m) ^ (e / 2)) % m ≡ (p * b ^ e) % m
odd_step p b e m h = mul-mod_first (p * b) (((b * b) % m) ^ (e / 2)) m ∙ mod-pow (b * b) m (e / 2) (p * b) ∙ ap (λ (x : ℕ). x % m) (odd_turn p b e h)

pub first_step : (b e m : ℕ) → (1 * b ^ e) % m ≡ (b ^ e) % m
first_step b e m = ap (λ (x : ℕ). x % m) (one-mul (b ^ e))

pub last_step : (p b e m : ℕ) → e ≡ 0 → (p * b ^ e) % m ≡ p % m
last_step p b e m h = ap (λ (x : ℕ). (p * b ^ x) % m) h ∙ ap (λ (x : ℕ). (p * x) % m) (pow-zero b) ∙ ap (λ (x : ℕ). x % m) (mul-one p)
