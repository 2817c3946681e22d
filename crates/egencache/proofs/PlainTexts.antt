-- What the search for the first line that is not plain finds, said of all the lines.
use Rattle.std.proofs.Common.{◌≡◌, ◌≢◌, ◌↔◌, ℕ, zero, suc, ◌+◌, ◌<◌, Bool, true, false, cond, List, [], ◌∷◌, length, take, Some, None, refl, subst, arith}
use Rattle.eb_bytes.specs.Text.{Text, lines}
use Rattle.egencache.specs.Assignments.{bad_line, bad_line_from, is_plain}
use Rattle.egencache.specs.Plain.{PlainLine, Nothing, Assigns, Other, plain_line}
use Rattle.egencache.specs.PlainText.{ArePlain}
use Rattle.egencache.proofs.Conditions.{none_chosen}

-- ---- lines from one on

plain-known : (line : PlainLine) → is_plain line ≡ true → line ≢ Other
plain-known Nothing h = λ e. (cc)
plain-known (Assigns name value) h = λ e. (cc)
plain-known Other h = absurd (cc)

known-plain : (line : PlainLine) → line ≢ Other → is_plain line ≡ true
known-plain Nothing h = refl
known-plain (Assigns name value) h = refl
known-plain Other h = absurd (h refl)

from-none : (n : ℕ) (ls : List Text) → bad_line_from n ls ≡ None → ArePlain ls
from-none n [] h = tt
from-none n (line ∷ ls) h =
    let both = none_chosen (is_plain (plain_line line)) (bad_line_from (n + 1) ls) n h in
    (plain-known (plain_line line) both.0, from-none (n + 1) ls both.1)

none-from : (n : ℕ) (ls : List Text) → ArePlain ls → bad_line_from n ls ≡ None
none-from n [] h = refl
none-from n (line ∷ ls) h = rw (known-plain (plain_line line) h.0) (none-from (n + 1) ls h.1)

-- ---- the line where it stops

-- the search from n on stops at m, and what it says of the lines before that one, and of them and that one
record IsCut (n : ℕ) (ls : List Text) (m : ℕ) : Type 0 where
  at : ℕ
  number : m ≡ n + at
  within : at < length ls
  before : bad_line_from n (take at ls) ≡ None
  through : bad_line_from n (take (suc at) ls) ≡ Some m

cut-behind : (n : ℕ) (line : Text) (ls : List Text) (m : ℕ) → is_plain (plain_line line) ≡ true → IsCut (n + 1) ls m → IsCut n (line ∷ ls) m
cut-behind n line ls m plain rest = record { at = suc rest.at; number = omega arith; within = omega arith; before = rw plain rest.before; through = rw plain rest.through }

cut-here : (n : ℕ) (line : Text) (ls : List Text) → is_plain (plain_line line) ≡ false → IsCut n (line ∷ ls) n
cut-here n line ls bad = record { at = zero; number = omega arith; within = omega arith; before = refl; through = rw bad refl }

cut : (n : ℕ) (ls : List Text) (m : ℕ) → bad_line_from n ls ≡ Some m → IsCut n ls m
cut n [] m h = absurd (cc)
cut n (line ∷ ls) m h = on (is_plain (plain_line line)) refl h (cut (n + 1) ls m)
  where
    on : (w : Bool) → is_plain (plain_line line) ≡ w → cond w (bad_line_from (n + 1) ls) (Some n) ≡ Some m → (bad_line_from (n + 1) ls ≡ Some m → IsCut (n + 1) ls m) → IsCut n (line ∷ ls) m
    on true e h rest = cut-behind n line ls m e (rest h)
    on false e h rest =
        let same : n ≡ m = cc in
        let P : ℕ → Type 0 = λ k. IsCut n (line ∷ ls) k in
        subst P same (cut-here n line ls e)

-- ---- all lines of a text

pub none-iff_plain : (text : Text) → (bad_line text ≡ None) ↔ ArePlain (lines text)
none-iff_plain text = (from-none 1 (lines text), none-from 1 (lines text))

pub first_bad : (text : Text) (n : ℕ) → bad_line text ≡ Some n → (before : ℕ) × (n ≡ before + 1) × (before < length (lines text)) × ArePlain (take before (lines text)) × (ArePlain (take n (lines text)) → ⊥)
first_bad text n h =
    let found : IsCut 1 (lines text) n = cut 1 (lines text) n h in
    let next : suc found.at ≡ n = omega arith in
    let P : ℕ → Type 0 = λ k. bad_line_from 1 (take k (lines text)) ≡ Some n in
    let through : bad_line_from 1 (take n (lines text)) ≡ Some n = subst P next found.through in
    let none_with : ArePlain (take n (lines text)) → ⊥ = λ plain. let none : bad_line_from 1 (take n (lines text)) ≡ None = none-from 1 (take n (lines text)) plain in absurd (cc) in
    (found.at, omega arith, found.within, from-none 1 (take found.at (lines text)) found.before, none_with)
