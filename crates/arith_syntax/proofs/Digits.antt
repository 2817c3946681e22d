-- Digits that are read in 64 bits give the lowest 64 bits of what they write.
use Rattle.std.proofs.Common.{◌≡◌, ℕ, ◌+◌, ◌*◌, ◌%◌, ◌^◌, ◌<◌, [], ◌∷◌, Option, Some, None, refl, ap, sym, ◌∙◌, arith}
use Rattle.std.specs.Option.{option_and_then, option_map}
use Rattle.std.proofs.Math.Nat.{mod-add-mod, mod-mod}
use Rattle.std.proofs.lemmas.Nat.{mul-mod_first}
use Rattle.std.proofs.lemmas.Bool.{lt-leb}
use Rattle.eb_bytes.specs.Text.{Text}
use Rattle.arith_syntax.specs.Constants.{at_most_64, digit_of, digits_after, low}

low_step : (m n base d : ℕ) → low m ≡ low n → low (m * base + d) ≡ low (n * base + d)
low_step m n base d e =
    sym (mod-add-mod (m * base) (2 ^ 64) d)
    ∙ ap (λ (x : ℕ). (x + d) % 2 ^ 64) (sym (mul-mod_first m base (2 ^ 64)) ∙ ap (λ (x : ℕ). (x * base) % 2 ^ 64) e ∙ mul-mod_first n base (2 ^ 64))
    ∙ mod-add-mod (n * base) (2 ^ 64) d

-- digits after numbers with the same lowest 64 bits
same_low : (base m n : ℕ) (t : Text) → low m ≡ low n → option_map low (digits_after base m t) ≡ option_map low (digits_after base n t)
same_low base m n [] e = ap Some e
same_low base m n (b ∷ t) e = on (digit_of base b) (λ x y. same_low base x y t)
  where
    on : (d : Option ℕ) → ((x y : ℕ) → low x ≡ low y → option_map low (digits_after base x t) ≡ option_map low (digits_after base y t))
        → option_map low (option_and_then (λ d. digits_after base (m * base + d) t) d) ≡ option_map low (option_and_then (λ d. digits_after base (n * base + d) t) d)
    on None rest = refl
    on (Some d) rest = rest (m * base + d) (n * base + d) (low_step m n base d e)

-- one digit more, in 64 bits
pub one_more : (base n b d : ℕ) (t : Text) → Some d ≡ digit_of base b
    → option_map low (digits_after base (((n * base) % 2 ^ 64 + d) % 2 ^ 64) t) ≡ option_map low (digits_after base n (b ∷ t))
one_more base n b d t digit =
    same_low base (((n * base) % 2 ^ 64 + d) % 2 ^ 64) (n * base + d) t (mod-mod _ (2 ^ 64) ∙ mod-add-mod (n * base) (2 ^ 64) d)
    ∙ ap (λ (o : Option ℕ). option_map low (option_and_then (λ d. digits_after base (n * base + d) t) o)) digit

-- a number above 64 stays above 64
too_big : (n : ℕ) (t : Text) → 64 < n → None ≡ option_and_then at_most_64 (digits_after 10 n t)
too_big n [] big = rw (lt-leb n 64 big) refl
too_big n (b ∷ t) big = on (digit_of 10 b) (λ x. too_big x t)
  where
    on : (d : Option ℕ) → ((x : ℕ) → 64 < x → None ≡ option_and_then at_most_64 (digits_after 10 x t))
        → None ≡ option_and_then at_most_64 (option_and_then (λ d. digits_after 10 (n * 10 + d) t) d)
    on None rest = refl
    on (Some d) rest = rest (n * 10 + d) (omega arith)

pub beyond : (n b d : ℕ) (t : Text) → Some d ≡ digit_of 10 b → 64 < 10 * n + d → None ≡ option_and_then at_most_64 (digits_after 10 n (b ∷ t))
beyond n b d t digit big =
    too_big (n * 10 + d) t (omega arith)
    ∙ ap (λ (o : Option ℕ). option_and_then at_most_64 (option_and_then (λ d. digits_after 10 (n * 10 + d) t) o)) digit
