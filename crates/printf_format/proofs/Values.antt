-- The numbers that digits write.
use Rattle.std.proofs.Common.{◌≡◌, ℕ, ◌+◌, ◌*◌, ◌<◌, ◌≤◌, ◌^◌, Bool, true, false, List, [], ◌∷◌, Option, Some, None, refl, sym, ap, ◌∙◌, arith}
use Rattle.std.specs.Prelude.{nat_lt, if◌then◌else◌}
use Rattle.std.proofs.lemmas.Bool.{lt-ltb, le-ltb, ltb-false, ltb-true}
use Rattle.std.proofs.Math.Nat.{mul-le-mul_left}
use Rattle.eb_bytes.specs.Text.{Text}
use Rattle.printf_format.specs.Digits.{below, digit_value, value_from}

-- a product that is too great is so with a digit more
pub over : (v r d : ℕ) → (v * r < 2 ^ 64 → ⊥) → v * r + d < 2 ^ 64 → ⊥
over v r d not h = not (omega arith)

-- more digits write no less
pub grows : (radix n : ℕ) (ds : Text) → 1 ≤ radix → n ≤ value_from radix n ds
grows radix n [] h = omega arith
grows radix n (d ∷ ds) h =
    let more : n * 1 ≤ n * radix = mul-le-mul_left n h in
    let rest : n * radix + digit_value d ≤ value_from radix (n * radix + digit_value d) ds = grows radix (n * radix + digit_value d) ds h in
    omega arith

pub is_below : (limit v n : ℕ) → v ≡ n → v < limit → Some v ≡ below limit n
is_below limit v n e h =
    let low : n < limit = omega arith in
    rw (lt-ltb n limit low) (ap Some e)

pub is_not_below : (limit n : ℕ) → limit ≤ n → None ≡ below limit n
is_not_below limit n h = rw (le-ltb n limit h) refl

-- where the digits up to this one write too much, all do
pub is_over : (radix v d b : ℕ) (ds : Text) → 1 ≤ radix → d ≡ digit_value b → (v * radix + d < 2 ^ 64 → ⊥)
    → None ≡ below (2 ^ 64) (value_from radix v (b ∷ ds))
is_over radix v d b ds h e not = is_not_below (2 ^ 64) (value_from radix v (b ∷ ds)) (on (nat_lt (v * radix + d) (2 ^ 64)) refl)
  where
    more : v * radix + digit_value b ≤ value_from radix (v * radix + digit_value b) ds
    more = grows radix (v * radix + digit_value b) ds h

    on : (t : Bool) → nat_lt (v * radix + d) (2 ^ 64) ≡ t → 2 ^ 64 ≤ value_from radix v (b ∷ ds)
    on true f = absurd (not (ltb-true (v * radix + d) (2 ^ 64) f))
    on false f = let large : 2 ^ 64 ≤ v * radix + d = ltb-false (v * radix + d) (2 ^ 64) f in omega (arith, more)
