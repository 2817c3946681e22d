-- The words that printf's conversions take (Bash Reference Manual, "Bash Builtin Commands", `printf`).
use Rattle.std.specs.Prelude.{ℕ, ◌-◌, ◌%◌, ◌^◌, Bool, true, false, ◌==◌, ◌||◌, ◌&&◌, nat_le, nat_lt, Option, Some, None, List, [], ◌∷◌, drop, if◌then◌else◌}
use Rattle.std.specs.Option.{option_map, option_and_then}
use Rattle.eb_bytes.specs.Text.{Text}
use Rattle.printf_format.specs.declared.conversion.Conversion.{Conversion}
use Rattle.printf_format.specs.declared.conversion.Size.{Size}
use Rattle.printf_format.specs.declared.conversion.Size.TheVariants.{Given, Word}
use Rattle.printf_format.specs.declared.digits.Base.TheVariants.{Octal, Decimal, Hexadecimal}
use Rattle.printf_format.specs.declared.layout.Layout.{Layout}
use Rattle.printf_format.specs.declared.number.Number.{Number}
use Rattle.printf_format.specs.Digits.{number_in}

-- ---- numbers

-- a hexadecimal number after `0x`, an octal one that begins with 0, or a decimal one
abbrev pub after_zero : Text → Option ℕ
after_zero [] = Some 0
after_zero (c ∷ t) = if c == 120 || c == 88 then number_in Hexadecimal t else number_in Octal (c ∷ t)

abbrev pub magnitude : Text → Option ℕ
magnitude [] = None
magnitude (c ∷ t) = if c == 48 then after_zero t else number_in Decimal (c ∷ t)

-- no number is both 0 and negative
abbrev pub with_sign : Bool → ℕ → Number
with_sign minus n = record { negative = minus && nat_lt 0 n; magnitude = n }

-- a `+`, a `-` or no sign, and a number of at most 64 bits
abbrev pub number : Text → Option Number
number [] = None
number (c ∷ t) =
    if c == 45 then option_map (with_sign true) (magnitude t)
    else (if c == 43 then option_map (with_sign false) (magnitude t)
    else option_map (with_sign false) (magnitude (c ∷ t)))

-- from -2^63 to 2^63 - 1
abbrev pub as_signed : Number → Option Number
as_signed n = if (if n.negative then nat_le n.magnitude (2 ^ 63) else nat_lt n.magnitude (2 ^ 63)) then Some n else None

-- from -2^63 to 2^64 - 1, modulo 2^64
abbrev pub as_unsigned : Number → Option ℕ
as_unsigned n =
    if n.negative
    then (if nat_le n.magnitude (2 ^ 63) then Some ((2 ^ 64 - n.magnitude) % 2 ^ 64) else None)
    else Some n.magnitude

-- ---- the words

-- the next word, if one is left; the words after it are `drop 1`
abbrev pub first : List Text → Option Text
first [] = None
first (w ∷ ws) = Some w

-- the text that a word gives, empty where none is left
abbrev pub text_of : Option Text → Text
text_of None = []
text_of (Some w) = w

-- the number that a word gives, 0 where none is left; none where the word is no number
abbrev pub number_of : Option Text → Option Number
number_of None = Some (with_sign false 0)
number_of (Some w) = number w

abbrev pub signed_of : Option Text → Option Number
signed_of w = option_and_then as_signed (number_of w)

abbrev pub unsigned_of : Option Text → Option ℕ
unsigned_of w = option_and_then as_unsigned (number_of w)

-- ---- the layout of a field

-- the number of a width or a precision, which `*` takes from the next word
abbrev pub size_of : Size → List Text → Option Number
size_of (Given n) ws = Some (with_sign false n)
size_of Word ws = signed_of (first ws)

-- the words that are left after it
abbrev pub left_by : Size → List Text → List Text
left_by (Given n) ws = ws
left_by Word ws = drop 1 ws

abbrev pub precision_of : Option Size → List Text → Option (Option Number)
precision_of None ws = Some None
precision_of (Some s) ws = option_map Some (size_of s ws)

abbrev pub left_by_precision : Option Size → List Text → List Text
left_by_precision None ws = ws
left_by_precision (Some s) ws = left_by s ws

-- a negative precision counts as none
abbrev pub not_negative : Option Number → Option ℕ
not_negative None = None
not_negative (Some n) = if n.negative then None else Some n.magnitude

-- a negative width stands for `-` and the width
abbrev pub laid_out : Conversion → Option Number → Option (Option Number) → Option Layout
laid_out c (Some width) (Some precision) = Some (record {
  left = c.flags.left || width.negative;
  zero = c.flags.zero;
  plus = c.flags.plus;
  width = width.magnitude;
  precision = not_negative precision;
})
laid_out c width precision = None

-- the layout that a conversion and the words say, the width's word first
abbrev pub layout : Conversion → List Text → Option Layout
layout c ws = laid_out c (size_of c.width ws) (precision_of c.precision (left_by c.width ws))

-- the words that are left after it
abbrev pub left_by_layout : Conversion → List Text → List Text
left_by_layout c ws = left_by_precision c.precision (left_by c.width ws)
