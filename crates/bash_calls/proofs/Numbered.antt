-- The number that digits name, as far as it counts: 3 stands for all above 2.
use Rattle.std.proofs.Common.{◌≡◌, ℕ, ◌+◌, ◌*◌, ◌<◌, min, take, length, List, get_or, refl, sym, ap, ◌∙◌, arith}
use Rattle.std.proofs.lemmas.Int.Digits.{digits_value_more}
use Rattle.std.specs.Char.{digit_value}
use Rattle.std.specs.Str.Parse.{digits_value}

next : (v n d : ℕ) → v ≡ min 3 n → min 3 (v * 10 + d) ≡ min 3 (n * 10 + d)
next v n d e = omega (arith, e)

pub digit_more : (v : ℕ) (ds : List ℕ) (i : ℕ) → i < length ds → v ≡ min 3 (digits_value 10 (take i ds))
    → min 3 (v * 10 + digit_value (get_or ds i 0)) ≡ min 3 (digits_value 10 (take (i + 1) ds))
digit_more v ds i lt e =
    next v (digits_value 10 (take i ds)) (digit_value (get_or ds i 0)) e ∙ ap (λ n. min 3 n) (sym (digits_value_more 10 ds i lt))
