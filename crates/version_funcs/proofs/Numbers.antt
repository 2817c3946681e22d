-- Numbers in decimal digits: compared by their digits, and read.
use Rattle.std.proofs.Common.{◌≡◌, ℕ, ◌+◌, ◌-◌, ◌*◌, ◌<◌, ◌≤◌, Bool, true, false, not, nat_le, [], ◌∷◌, length, map, take, min, get_or, inl, inr, refl, ap, sym, ◌∙◌, arith}
use Rattle.std.specs.declared.cmp.Ordering.{Ordering}
use Rattle.std.specs.declared.cmp.Ordering.TheVariants.{Equal, Less, Greater}
use Rattle.std.specs.List.{list_all}
use Rattle.std.specs.Int.Digits.{number_from_digits, number_from_digits_after}
use Rattle.std.specs.Ordering.{nat_cmp, ordering_then}
use Rattle.std.specs.Cmp.{nat_cmp_is}
use Rattle.std.specs.Cmp.Lexicographic.{slice_cmp}
use Rattle.std.proofs.lemmas.Bool.{and_parts, cases_order, eqb-false, eqb-true, leb-true}
use Rattle.std.proofs.lemmas.Int.Digits.{number_after_ge, number_more}
use Rattle.std.proofs.lemmas.List.{get_or-map, length-map}
use Rattle.byte_class.specs.Class.{is_digit, is_zero}
use Rattle.eb_bytes.specs.Text.{Text}
use Rattle.version_funcs.specs.Byte.{after_while}
use Rattle.version_funcs.specs.Compared.{digits_order, stripped_order}
use Rattle.version_funcs.specs.Number.{digit, number, number_order}
use Rattle.version_funcs.proofs.Marks.{cut, stops}
use Rattle.version_funcs.proofs.Runs.{after_while-goes_on, after_while-stops, list_all-after_while}

-- ---- the order of numbers

cmp_less : (m n : ℕ) → m < n → nat_cmp m n ≡ Less
cmp_less m n h = sym (nat_cmp_is m n Less h)

cmp_equal : (m n : ℕ) → m ≡ n → nat_cmp m n ≡ Equal
cmp_equal m n h = sym (nat_cmp_is m n Equal h)

cmp_greater : (m n : ℕ) → n < m → nat_cmp m n ≡ Greater
cmp_greater m n h = sym (nat_cmp_is m n Greater h)

-- ---- digits

-- the number that digits write after a number
abbrev pub going_on : ℕ → Text → ℕ
going_on n t = number_from_digits_after 10 n (map digit t)

record IsDigit (b : ℕ) : Type 0 where
  low : 48 ≤ b
  high : b ≤ 57

is_digit-bounds : (b : ℕ) → is_digit b ≡ true → IsDigit b
is_digit-bounds b e = record { low = leb-true 48 b (and_parts (nat_le 48 b) (nat_le b 57) e).0; high = leb-true b 57 (and_parts (nat_le 48 b) (nat_le b 57) e).1 }

-- what stands after a smaller number, and is no longer, writes a smaller number
going_on-lt : (m n : ℕ) (xs ys : Text) → list_all is_digit xs ≡ true → m < n → length xs ≤ length ys → going_on m xs < going_on n ys
going_on-lt m n [] ys all less short = let more = number_after_ge 10 n (map digit ys) (omega arith) in omega arith
going_on-lt m n (x ∷ xs) [] all less short = absurd (omega arith)
going_on-lt m n (x ∷ xs) (y ∷ ys) all less short =
    let here = is_digit-bounds x (and_parts (is_digit x) (list_all is_digit xs) all).0 in
    going_on-lt (m * 10 + digit x) (n * 10 + digit y) xs ys (and_parts (is_digit x) (list_all is_digit xs) all).1 (omega arith) (omega arith)

-- ---- numbers of one length

-- digits after one number, as many, are ordered as they are as bytes
going_on-order : (n : ℕ) (xs ys : Text) → list_all is_digit xs ≡ true → list_all is_digit ys ≡ true → length xs ≡ length ys → slice_cmp nat_cmp xs ys ≡ nat_cmp (going_on n xs) (going_on n ys)
going_on-order n [] [] low high same = sym (cmp_equal n n refl)
going_on-order n [] (y ∷ ys) low high same = absurd (omega arith)
going_on-order n (x ∷ xs) [] low high same = absurd (omega arith)
going_on-order n (x ∷ xs) (y ∷ ys) low high same =
    let x_is = is_digit-bounds x (and_parts (is_digit x) (list_all is_digit xs) low).0 in
    let y_is = is_digit-bounds y (and_parts (is_digit y) (list_all is_digit ys) high).0 in
    let xs_are : list_all is_digit xs ≡ true = (and_parts (is_digit x) (list_all is_digit xs) low).1 in
    let ys_are : list_all is_digit ys ≡ true = (and_parts (is_digit y) (list_all is_digit ys) high).1 in
    let first = λ (o : Ordering). ordering_then o (slice_cmp nat_cmp xs ys) in
    elim (cases_order x y) [
      | inl equal ↦
          (ap first (cmp_equal x y equal)
          ∙ going_on-order (n * 10 + digit x) xs ys xs_are ys_are (omega arith)
          ∙ ap (λ (b : ℕ). nat_cmp (going_on (n * 10 + digit x) xs) (going_on (n * 10 + digit b) ys)) equal)
      | inr (inl less) ↦
          (ap first (cmp_less x y less)
          ∙ sym (cmp_less _ _ (going_on-lt (n * 10 + digit x) (n * 10 + digit y) xs ys xs_are (let a : 48 ≤ x = x_is.low in omega arith) (omega arith))))
      | inr (inr greater) ↦
          (ap first (cmp_greater x y greater)
          ∙ sym (cmp_greater _ _ (going_on-lt (n * 10 + digit y) (n * 10 + digit x) ys xs ys_are (let a : 48 ≤ y = y_is.low in omega arith) (omega arith))))
    ]

-- ---- numbers of different lengths

-- zeros at the front add nothing
number-significant : (t : Text) → number (after_while is_zero t) ≡ number t
number-significant [] = refl
number-significant (b ∷ t) = on (is_zero b) refl (number-significant t)
  where
    on : (v : Bool) → is_zero b ≡ v → number (after_while is_zero t) ≡ number t → number (after_while is_zero (b ∷ t)) ≡ number (b ∷ t)
    on true e rest =
        let zero_digit : b ≡ 48 = eqb-true b 48 e in
        let none : 0 + digit b ≡ 0 = omega arith in
        ap number (after_while-goes_on is_zero b t e) ∙ rest ∙ ap (λ (n : ℕ). going_on n t) (sym none)
    on false e rest = ap number (after_while-stops is_zero b t e)

not_true : (v : Bool) → not v ≡ true → v ≡ false
not_true true h = absurd (cc)
not_true false h = refl

-- fewer digits write a smaller number, where the other one's first digit is no zero
shorter : (xs ys : Text) → list_all is_digit xs ≡ true → list_all is_digit ys ≡ true → stops is_zero ys ≡ true → length xs < length ys → number xs < number ys
shorter xs [] low high stop less = absurd (omega arith)
shorter xs (y ∷ ys) low high stop less =
    let y_is = is_digit-bounds y (and_parts (is_digit y) (list_all is_digit ys) high).0 in
    let some : y ≡ 48 → ⊥ = eqb-false y 48 (not_true (is_zero y) stop) in
    going_on-lt 0 (0 + digit y) xs ys low (omega arith) (omega arith)

-- ---- all numbers

stripped_order-number : (a b : Text) → list_all is_digit a ≡ true → list_all is_digit b ≡ true → stops is_zero a ≡ true → stops is_zero b ≡ true → stripped_order a b ≡ number_order a b
stripped_order-number a b digits_a digits_b stop_a stop_b = elim (cases_order (length a) (length b)) [
  | inl equal ↦ ap (λ (o : Ordering). ordering_then o (slice_cmp nat_cmp a b)) (cmp_equal _ _ equal) ∙ going_on-order 0 a b digits_a digits_b equal
  | inr (inl less) ↦ ap (λ (o : Ordering). ordering_then o (slice_cmp nat_cmp a b)) (cmp_less _ _ less) ∙ sym (cmp_less _ _ (shorter a b digits_a digits_b stop_b less))
  | inr (inr greater) ↦ ap (λ (o : Ordering). ordering_then o (slice_cmp nat_cmp a b)) (cmp_greater _ _ greater) ∙ sym (cmp_greater _ _ (shorter b a digits_b digits_a stop_a greater))
]

-- digits compare as their numbers do
pub digits_order-number : (a b : Text) → list_all is_digit a ≡ true → list_all is_digit b ≡ true → digits_order a b ≡ number_order a b
digits_order-number a b digits_a digits_b =
    stripped_order-number (after_while is_zero a) (after_while is_zero b) (list_all-after_while is_digit is_zero a digits_a) (list_all-after_while is_digit is_zero b digits_b) (cut is_zero a).stop (cut is_zero b).stop
    ∙ ap (λ (n : ℕ). nat_cmp n (number (after_while is_zero b))) (number-significant a)
    ∙ ap (nat_cmp (number a)) (number-significant b)

-- ---- reading

-- one digit more
pub clamped-more : (above place i : ℕ) (t : Text) → i < length t → place ≡ min (number_from_digits 10 (take i (map digit t))) above → min (place * 10 + (get_or t i 0 - 48)) above ≡ min (number_from_digits 10 (take (i + 1) (map digit t))) above
clamped-more above place i t within so_far =
    let long = length-map t digit in
    let longer = number_more 10 (map digit t) i (omega arith) in
    let here = get_or-map digit t i 0 0 within in
    let value : number_from_digits 10 (take (i + 1) (map digit t)) ≡ number_from_digits 10 (take i (map digit t)) * 10 + (get_or t i 0 - 48) = longer ∙ ap (λ (d : ℕ). number_from_digits 10 (take i (map digit t)) * 10 + d) here in
    ap (λ (n : ℕ). min (n * 10 + (get_or t i 0 - 48)) above) so_far ∙ same (number_from_digits 10 (take i (map digit t))) (get_or t i 0 - 48) ∙ ap (λ (n : ℕ). min n above) (sym value)
  where
    same : (n d : ℕ) → min (min n above * 10 + d) above ≡ min (n * 10 + d) above
    same n d = omega arith
