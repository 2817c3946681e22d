-- The parts of the text of `$'..'` that are left after one was read, and digits read in a byte.
use Rattle.std.proofs.Common.{◌≡◌, ◌<◌, ◌≤◌, ℕ, suc, ◌+◌, ◌-◌, ◌*◌, ◌%◌, List, [], ◌∷◌, length, take, drop, min, ap, sym, ◌∙◌, arith}
use Rattle.std.proofs.Math.Nat.{mod-add-mod, mod-mod}
use Rattle.std.proofs.lemmas.List.{length-drop, take_all, take_min}
use Rattle.std.proofs.lemmas.Nat.{mul-mod_first}
use Rattle.std.specs.List.{prefix_len}
use Rattle.eb_bytes.specs.Text.{Text}
use Rattle.eb_grammar.specs.declared.ansi.Base.{Base}
use Rattle.eb_grammar.specs.declared.ansi.Meaning.{Meaning}
use Rattle.eb_grammar.specs.declared.ansi.Meaning.TheVariants.{End}
use Rattle.eb_grammar.specs.AnsiText.{before, digit_value, digits_at, is_digit_of, most_digits, part_of, parts_from, value_from}

-- the turns that are left
turns : (len i : ℕ) → i < len → suc (len - (i + 1)) ≡ len - i
turns len i h = omega arith

-- what is left after a part
rest_is : (rest : Text) (n : ℕ) → n ≤ length rest → take (length rest - n) (drop n rest) ≡ drop n rest
rest_is rest n h = take_all (length rest - n) (drop n rest) (omega (arith, length-drop n rest))

module _ {A : Type 0} (of : List Meaning → A) (text rest : Text) (i : ℕ) (p : Meaning × ℕ) (below : i < length text) (part : p ≡ part_of rest) where
  -- the first of the parts that are left
  first_part : of (before p.0 (parts_from (length text - (i + 1)) (drop p.1 rest))) ≡ of (parts_from (length text - i) rest)
  first_part = ap (λ (q : Meaning × ℕ). of (before q.0 (parts_from (length text - (i + 1)) (drop q.1 rest)))) part
      ∙ ap (λ (n : ℕ). of (parts_from n rest)) (turns (length text) i below)

  -- a part that is not the end
  pub other_part : (m : Meaning) → p.0 ≡ m → p.1 ≤ length rest
      → of (before m (parts_from (length text - (i + 1)) (take (length rest - p.1) (drop p.1 rest)))) ≡ of (parts_from (length text - i) rest)
  other_part m is within =
      ap (λ (t : Text). of (before m (parts_from (length text - (i + 1)) t))) (rest_is rest p.1 within)
      ∙ ap (λ (k : Meaning). of (before k (parts_from (length text - (i + 1)) (drop p.1 rest)))) (sym is)
      ∙ first_part

  -- the end
  pub last_part : p.0 ≡ End → of [] ≡ of (parts_from (length text - i) rest)
  last_part is = ap (λ (k : Meaning). of (before k (parts_from (length text - (i + 1)) (drop p.1 rest)))) (sym is) ∙ first_part

low_step : (m n radix d : ℕ) → m % 256 ≡ n % 256 → (m * radix + d) % 256 ≡ (n * radix + d) % 256
low_step m n radix d e =
    sym (mod-add-mod (m * radix) 256 d)
    ∙ ap (λ (x : ℕ). (x + d) % 256) (sym (mul-mod_first m radix 256) ∙ ap (λ (x : ℕ). (x * radix) % 256) e ∙ mul-mod_first n radix 256)
    ∙ mod-add-mod (n * radix) 256 d

-- digits after numbers with the same lowest byte
same_low : (radix m n : ℕ) (ds : Text) → m % 256 ≡ n % 256 → value_from radix m ds % 256 ≡ value_from radix n ds % 256
same_low radix m n [] e = e
same_low radix m n (d ∷ ds) e = same_low radix (m * radix + digit_value d) (n * radix + digit_value d) ds (low_step m n radix (digit_value d) e)

-- one digit more, in a byte
pub one_more : (radix n b d : ℕ) (ds : Text) → d ≡ digit_value b
    → value_from radix (((n * radix) % 256 + d) % 256) ds % 256 ≡ value_from radix n (b ∷ ds) % 256
one_more radix n b d ds digit =
    same_low radix (((n * radix) % 256 + d) % 256) (n * radix + d) ds (mod-mod _ 256 ∙ mod-add-mod (n * radix) 256 d)
    ∙ ap (λ (x : ℕ). value_from radix (n * radix + x) ds % 256) digit

-- the digits that a text begins with are those of its first bytes
pub digits_are : (base : Base) (text : Text) (most least n : ℕ) → most ≡ most_digits base → least ≡ min most (length text)
    → n ≡ prefix_len (is_digit_of base) (take least text) → take n (take least text) ≡ digits_at base text
digits_are base text most least n m l e =
    ap (λ (k : ℕ). take k (take least text)) e
    ∙ ap (λ (t : Text). take (prefix_len (is_digit_of base) t) t)
    (ap (λ (k : ℕ). take k text) l ∙ take_min most text ∙ ap (λ (k : ℕ). take k text) m)
