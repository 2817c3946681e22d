-- What std's `parse` reads as a signed number is what a text writes.
use Rattle.std.proofs.Common.{◌≡◌, ℕ, ◌<◌, zero, suc, Bool, true, false, cond, ◌&&◌, ◌==◌, nat_le, [], ◌∷◌, drop, Some, None, Result, Ok, Err, ℤ, pos, negsuc, w64, FitsSigned, refl, ap, arith}
use Rattle.std.specs.Int.{IsInRange}
use Rattle.std.specs.List.{list_all}
use Rattle.std.specs.Result.{result_ok}
use Rattle.std.specs.Str.{IsAscii, IsUtf8}
use Rattle.std.specs.Str.Parse.{IsNumeral, ParsesSigned, digits_value, signed_digits_value, without_leading_sign}
use Rattle.std.proofs.lemmas.Bool.{and_from, and_parts, le-leb, leb-true, lt-ltb, ltb-true, eqb-true}
use Rattle.std.proofs.lemmas.Fmt.{IsAscii-from_digits}
use Rattle.std.proofs.lemmas.Str.{IsUtf8-from_ascii}
use Rattle.std.proofs.lemmas.Str.Parse.{IsDigitsTest, IsNumeralModel, numerals_by_value}
use Rattle.byte_class.specs.Class.{is_digit}
use Rattle.signed_numbers.specs.Numbers.{fits_64_bits, is_numeral, signed_number}
use Rattle.eb_bytes.specs.Text.{Text}

digit_true : (b : ℕ) → is_digit b ≡ true → IsInRange 48 57 b
digit_true b e = let parts = and_parts (nat_le 48 b) (nat_le b 57) e in (leb-true 48 b parts.0, leb-true b 57 parts.1)

true_digit : (b : ℕ) → IsInRange 48 57 b → is_digit b ≡ true
true_digit b h = and_from (nat_le 48 b) (nat_le b 57) (le-leb 48 b h.0) (le-leb b 57 h.1)

tells : IsDigitsTest (λ t. list_all is_digit t ≡ true)
tells = record {
  empty = refl;
  parts = λ b t e. let both = and_parts (is_digit b) (list_all is_digit t) e in (digit_true b both.0, both.1);
  more = λ b t h e. and_from (is_digit b) (list_all is_digit t) (true_digit b h) e;
}

digits : IsNumeralModel (λ t. list_all is_digit t ≡ true) (digits_value 10)
digits = numerals_by_value _ tells

numeral_true : (t : Text) → is_numeral t ≡ true → IsNumeral 10 t
numeral_true [] e = absurd (cc)
numeral_true (b ∷ t) e = (omega arith, digits.to (b ∷ t) e)

true_numeral : (t : Text) → IsNumeral 10 t → is_numeral t ≡ true
true_numeral [] h = absurd (omega (arith, h.0))
true_numeral (b ∷ t) h = digits.from (b ∷ t) h.1

fits_true : (z : ℤ) → fits_64_bits z ≡ true → FitsSigned w64 z
fits_true (pos n) e = record { sfits = ltb-true _ _ e }
fits_true (negsuc n) e = record { sfits = ltb-true _ _ e }

true_fits : (z : ℤ) → FitsSigned w64 z → fits_64_bits z ≡ true
true_fits (pos n) h = lt-ltb _ _ h.sfits
true_fits (negsuc n) h = lt-ltb _ _ h.sfits

-- where a text writes no number that 64 bits hold
none_where : (t : Text) → ((is_numeral (without_leading_sign t) && fits_64_bits (signed_digits_value 10 t)) ≡ true → ⊥) → None ≡ signed_number t
none_where t not = on (is_numeral (without_leading_sign t) && fits_64_bits (signed_digits_value 10 t)) refl
  where
    on : (v : Bool) → (is_numeral (without_leading_sign t) && fits_64_bits (signed_digits_value 10 t)) ≡ v → None ≡ cond v (Some (signed_digits_value 10 t)) None
    on true e = absurd (not e)
    on false e = refl

-- what `parse` gives
pub parsed : {E : Type 0} (t : Text) (r : Result ℤ E) → ParsesSigned w64 10 t r → result_ok r ≡ signed_number t
parsed t (Ok z) h =
    let writes : (is_numeral (without_leading_sign t) && fits_64_bits (signed_digits_value 10 t)) ≡ true = and_from _ _ (true_numeral (without_leading_sign t) h.0.0) (true_fits (signed_digits_value 10 t) h.0.1) in
    rw writes (ap Some h.1)
parsed t (Err e) h = none_where t (λ writes. let both = and_parts (is_numeral (without_leading_sign t)) (fits_64_bits (signed_digits_value 10 t)) writes in h (numeral_true (without_leading_sign t) both.0, fits_true (signed_digits_value 10 t) both.1))

-- such a text is ASCII
ascii_more : (b : ℕ) (t : Text) → b < 128 → IsAscii t → IsAscii (b ∷ t)
ascii_more b t low rest zero = low
ascii_more b t low rest (suc i) = rest i

ascii_signed : (t : Text) → IsNumeral 10 (without_leading_sign t) → IsAscii t
ascii_signed [] h = absurd (omega (arith, h.0))
ascii_signed (b ∷ t) h = on_minus (b == 45) refl (b == 43) refl h
  where
    on_minus : (v : Bool) → (b == 45) ≡ v → (w : Bool) → (b == 43) ≡ w → IsNumeral 10 (cond v t (drop (cond w 1 0) (b ∷ t))) → IsAscii (b ∷ t)
    on_minus true e w f h = ascii_more b t (omega (arith, eqb-true b 45 e)) (IsAscii-from_digits t h.1)
    on_minus false e true f h = ascii_more b t (omega (arith, eqb-true b 43 f)) (IsAscii-from_digits t h.1)
    on_minus false e false f h = IsAscii-from_digits (b ∷ t) h.1

-- what is no text of characters writes no number
pub not_text : (t : Text) → (IsUtf8 t → ⊥) → None ≡ signed_number t
not_text t not = none_where t (λ writes. not (IsUtf8-from_ascii t (ascii_signed t (numeral_true (without_leading_sign t) (and_parts _ _ writes).0))))
