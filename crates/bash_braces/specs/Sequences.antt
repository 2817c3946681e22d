-- Sequences: what may stand between the braces of `{x..y}` and `{x..y..i}`, and the texts that it stands for (Bash
-- Reference Manual, "Brace Expansion").
use Rattle.std.specs.Prelude.{ℕ, zero, suc, ◌-◌, ◌/◌, ◌%◌, max, ℤ, pos, negsuc, neg_ℤ, ◌+ℤ◌, ◌-ℤ◌, Bool, ◌==◌, ◌&&◌, ◌||◌, List, [], ◌∷◌, ◌++◌, length, map, drop, replicate, slice_index, Option, Some, None, if◌then◌else◌, nat_lt, decimal, unsigned_abs, true, false}
use Rattle.std.specs.Str.Parse.{without_leading_sign}
use Rattle.byte_class.specs.Class.{is_letter}
use Rattle.signed_numbers.specs.Numbers.{signed_number}
use Rattle.eb_bytes.specs.Text.{Text}
use Rattle.bash_braces.specs.declared.sequence.Form.{Form}
use Rattle.bash_braces.specs.declared.sequence.Form.TheVariants.{Letters, Numbers}
use Rattle.bash_braces.specs.declared.sequence.Sequence.{Sequence}

-- ---- how a sequence is written

-- what stands before and after the first `..`
abbrev pub onto_left : ℕ → Option (Text × Text) → Option (Text × Text)
onto_left b None = None
onto_left b (Some (left, right)) = Some (b ∷ left, right)

abbrev pub begins_with_dots : Text → Bool
begins_with_dots t = slice_index t 0 == 46 && slice_index t 1 == 46

abbrev pub cut : Text → Option (Text × Text)
cut [] = None
cut (b ∷ t) = if begins_with_dots (b ∷ t) then Some ([], drop 1 t) else onto_left b (cut t)

-- whether a number begins with a zero, after its sign if it has one, and has more digits
abbrev pub is_padded : Text → Bool
is_padded t = nat_lt 1 (length (without_leading_sign t)) && slice_index (without_leading_sign t) 0 == 48

-- how wide the numbers between these two are: as the wider of the two is written, its sign among them, where one of
-- them is padded
abbrev pub width : Text → Text → ℕ
width x y = if is_padded x || is_padded y then max (length x) (length y) else 0

-- the letter that a text is
abbrev pub letter : Text → Option ℕ
letter (b ∷ []) = if is_letter b then Some b else None
letter [] = None
letter (b ∷ c ∷ t) = None

abbrev pub of_letters : Option ℕ → Option ℕ → ℕ → Option Sequence
of_letters (Some a) (Some b) apart = Some (record { from = pos a; to = pos b; apart = apart; form = Letters })
of_letters (Some a) None apart = None
of_letters None b apart = None

abbrev pub of_numbers : Option ℤ → Option ℤ → ℕ → ℕ → Option Sequence
of_numbers (Some a) (Some b) apart wide = Some (record { from = a; to = b; apart = apart; form = Numbers wide })
of_numbers (Some a) None apart wide = None
of_numbers None b apart wide = None

abbrev pub first_of : Option Sequence → Option Sequence → Option Sequence
first_of (Some s) other = Some s
first_of None other = other

-- two letters or two numbers of at most 64 bits
abbrev pub between : Text → Text → Option ℤ → Option Sequence
between x y None = None
between x y (Some i) = first_of (of_letters (letter x) (letter y) (unsigned_abs i)) (of_numbers (signed_number x) (signed_number y) (unsigned_abs i) (width x y))

-- the end, and perhaps an increment after it
abbrev pub ended : Text → Text → Option (Text × Text) → Option Sequence
ended x rest None = between x rest (Some (pos 1))
ended x rest (Some (y, i)) = between x y (signed_number i)

abbrev pub begun : Option (Text × Text) → Option Sequence
begun None = None
begun (Some (x, rest)) = ended x rest (cut rest)

-- the sequence that a text writes, where it writes one
abbrev pub sequence : Text → Option Sequence
sequence t = begun (cut t)

-- ---- what a sequence stands for

-- how far apart the numbers are: by the increment without its sign, and by 1 where it is 0
abbrev pub step : Sequence → ℕ
step s = max 1 s.apart

-- how many numbers follow the first: towards the last, and not beyond it
abbrev pub steps : Sequence → ℕ
steps s = unsigned_abs (s.to -ℤ s.from) / step s

abbrev pub is_below_zero : ℤ → Bool
is_below_zero (pos n) = false
is_below_zero (negsuc n) = true

-- whether the numbers fall
abbrev pub falls : Sequence → Bool
falls s = is_below_zero (s.to -ℤ s.from)

abbrev pub move : Bool → ℕ → ℤ
move falling far = if falling then neg_ℤ (pos far) else pos far

-- so many numbers after this one
abbrev pub further : ℕ → ℤ → ℤ → List ℤ
further zero z by = []
further (suc n) z by = (z +ℤ by) ∷ further n (z +ℤ by) by

-- a number's text, with zeros between its sign and its digits up to a width
abbrev pub sign : ℤ → Text
sign (pos n) = []
sign (negsuc n) = 45 ∷ []

abbrev pub padded : ℕ → ℤ → Text
padded wide z = sign z ++ replicate (wide - length (sign z ++ decimal (unsigned_abs z))) 48 ++ decimal (unsigned_abs z)

-- a letter is a byte, and so is each number between two
abbrev pub text : Form → ℤ → Text
text Letters z = (unsigned_abs z % 256) ∷ []
text (Numbers wide) z = padded wide z

abbrev pub texts : Sequence → List Text
texts s = map (text s.form) (s.from ∷ further (steps s) s.from (move (falls s) (step s)))
