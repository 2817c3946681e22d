-- Lower-case hexadecimal digits read back as they are written.
use Rattle.std.proofs.Common.{◌≡◌, ℕ, zero, suc, ◌+◌, ◌-◌, ◌*◌, ◌/◌, ◌%◌, ◌<◌, ◌≤◌, ◌==◌, Bool, true, ◌&&◌, ◌⊎◌, inl, inr, List, [], ◌∷◌, length, slice_index, Some, Result, Ok, refl, sym, ap, ◌∙◌, arith, nat_lt, if◌then◌else◌}
use Rattle.std.proofs.lemmas.Bool.{and_parts, cases_lt, eqb-true}
use Rattle.std.proofs.lemmas.Bool.Decides.{nat_tests}
use Rattle.std.proofs.lemmas.List.Elements.{All-cons, All-head, All-nil, All-tail}
use Rattle.std.specs.List.{AllPass}
use Rattle.hex.specs.Hex.{IsBytes, decode_pairs, decode_sized, digit_or_error, hex_digit_value, encode_with, lower_digits, pair_value, value_at}
use Rattle.hex.proofs.HexLemmas.{decode_sized-encode_lower, decode_sized-ok, length-encode_with}
use Rattle.hex.proofs.Pairs.{cons_byte, decode_pairs-ok_pair, decode_sized-pairs}
use Rattle.std.specs.Result.{result_unwrap_or}
use Rattle.hex.specs.declared.error.FromHexError.{FromHexError}
use Rattle.eb_digest.specs.Digest.{IsDigest, IsDigestText, digest_text, is_lower_digit}

-- the digit of a value below 16
abbrev digit_of : ℕ → ℕ
digit_of v = if nat_lt v 10 then v + 48 else v + 87

-- the test of the first n entries of the table
abbrev all_right : ℕ → Bool
all_right zero = true
all_right (suc n) = (slice_index lower_digits n == digit_of n) && all_right n

all_right-at : (n k : ℕ) → all_right n ≡ true → k < n → slice_index lower_digits k ≡ digit_of k
all_right-at zero k h lt = absurd (omega arith)
all_right-at (suc n) k h lt =
    let parts = and_parts (slice_index lower_digits n == digit_of n) (all_right n) h in
    elim (cases_lt k n) [
      | inl below ↦ all_right-at n k parts.1 below
      | inr top ↦
          let e : k ≡ n = omega arith in
          rw e (eqb-true _ _ parts.0)
    ]

-- what a lower-case digit means
record Reads (c : ℕ) : Type 0 where
  pub value : ℕ
  pub small : value < 16
  pub read : hex_digit_value c ≡ Some value
  pub written : slice_index lower_digits value ≡ c

low_digit : (c : ℕ) → 48 ≤ c → c ≤ 57 → Reads c
low_digit c h k = record {
  value = c - 48;
  small = omega arith;
  read = grind (arith, nat_tests);
  written = all_right-at 16 (c - 48) refl (omega arith) ∙ grind (arith, nat_tests);
}

high_digit : (c : ℕ) → 97 ≤ c → c ≤ 102 → Reads c
high_digit c h k = record {
  value = c - 87;
  small = omega arith;
  read = grind (arith, nat_tests);
  written = all_right-at 16 (c - 87) refl (omega arith) ∙ grind (arith, nat_tests);
}

in_range : (c : ℕ) → is_lower_digit c ≡ true → ((48 ≤ c) × (c ≤ 57)) ⊎ ((97 ≤ c) × (c ≤ 102))
in_range c h = grind (arith, nat_tests)

lower_reads : (c : ℕ) → is_lower_digit c ≡ true → Reads c
lower_reads c h = elim (in_range c h) [ inl low ↦ low_digit c low.0 low.1 | inr high ↦ high_digit c high.0 high.1 ]

abbrev Lower : ℕ → Type 0
Lower c = is_lower_digit c ≡ true

-- the bytes of an even number of lower-case digits, and that these are written so
pub lower_pairs : (i : ℕ) (s : List ℕ) → length s % 2 ≡ 0 → AllPass is_lower_digit s
    → (bytes : List ℕ) × (decode_pairs i s ≡ Ok bytes) × (s ≡ encode_with lower_digits bytes)
unfolding decode_pairs encode_with
lower_pairs i [] even h = ([], refl, refl)
lower_pairs i (a ∷ []) even h = absurd (omega arith)
lower_pairs i (a ∷ b ∷ rest) even h =
    let tail = All-tail Lower a (b ∷ rest) h in
    let da = lower_reads a (All-head Lower a (b ∷ rest) h) in
    let db = lower_reads b (All-head Lower b rest tail) in
    let ih = lower_pairs (i + 2) rest (omega arith) (All-tail Lower b rest tail) in
    let x = da.value in
    let y = db.value in
    let high : (x * 16 + y) / 16 ≡ x = omega arith in
    let low : (x * 16 + y) % 16 ≡ y = omega arith in
    let ha : value_at a i ≡ Ok x = ap (digit_or_error a i) da.read in
    let hb : value_at b (i + 1) ≡ Ok y = ap (digit_or_error b (i + 1)) db.read in
    let pair : pair_value a b i ≡ Ok (x * 16 + y) = rw (ha, hb) refl in (
      (x * 16 + y) ∷ ih.0,
      decode_pairs-ok_pair i a b _ rest pair ∙ ap (cons_byte (x * 16 + y)) ih.1,
      rw (high, low, da.written, db.written, ← ih.2) refl,
    )

-- what 32 lower-case digits mean
pub digest_text-read : (s : List ℕ) → IsDigestText s
    → (bytes : List ℕ) × (decode_sized s 16 ≡ Ok bytes) × (s ≡ digest_text bytes)
digest_text-read s h =
    let len = h.length_32 in
    let even : length s % 2 ≡ 0 = omega arith in
    let half : length s / 2 ≡ 16 = omega arith in
    let r = lower_pairs 0 s even h.lower in
    (r.0, decode_sized-pairs s 16 even half ∙ r.1, r.2)

-- lower-case digits that were read are written so again
pub decode_sized-written : (s bytes : List ℕ) → AllPass is_lower_digit s → decode_sized s 16 ≡ Ok bytes → s ≡ digest_text bytes
decode_sized-written s bytes h ok =
    let len = decode_sized-ok s 16 bytes ok in
    let r = digest_text-read s (record { length_32 = len; lower = h }) in
    let same : r.0 ≡ bytes = ap (λ (x : Result (List ℕ) FromHexError). result_unwrap_or x []) (sym r.1 ∙ ok) in
    r.2 ∙ ap digest_text same

lower-digit : (v : ℕ) → v < 16 → Lower (slice_index lower_digits v)
lower-digit v h = rw (all_right-at 16 v refl h) (grind (arith, nat_tests))

lower-encode_with : (bytes : List ℕ) → IsBytes bytes → AllPass is_lower_digit (encode_with lower_digits bytes)
unfolding encode_with
lower-encode_with [] h = All-nil Lower
lower-encode_with (b ∷ rest) h =
    let fits : b < 256 = h 0 in
    let high : b / 16 < 16 = omega arith in
    let low : b % 16 < 16 = omega arith in
    let text = encode_with lower_digits rest in
    let first = slice_index lower_digits (b / 16) in
    let second = slice_index lower_digits (b % 16) in
    All-cons Lower first (second ∷ text) (lower-digit (b / 16) high)
    (All-cons Lower second text (lower-digit (b % 16) low) (lower-encode_with rest (λ k. h (suc k))))

-- a digest's text is one
pub IsDigestText-digest_text : (digest : List ℕ) → IsDigest digest → IsDigestText (digest_text digest)
IsDigestText-digest_text digest h = record {
  length_32 = length-encode_with lower_digits digest ∙ ap (λ n. 2 * n) h.sixteen;
  lower = lower-encode_with digest h.bytes;
}

-- a digest's text is read as the digest
pub digest-read : (text digest : List ℕ) → IsDigest digest → text ≡ digest_text digest → decode_sized text 16 ≡ Ok digest
digest-read text digest is same =
    ap (λ t. decode_sized t 16) same ∙ decode_sized-encode_lower digest 16 is.sixteen is.bytes
