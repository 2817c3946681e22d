-- What a field prints (Bash Reference Manual, "Bash Builtin Commands", `printf`; POSIX, "File Format Notation").
use Rattle.std.specs.Prelude.{ℕ, ◌-◌, ◌+◌, Bool, true, false, not, ◌==◌, ◌&&◌, filter, replicate, unwrap_or, is_none, Option, Some, None, List, [], ◌∷◌, ◌++◌, take, length, codes, decimal, if◌then◌else◌}
use Rattle.std.specs.Fmt.{radix_digits}
use Rattle.byte_class.specs.Class.{is_nul}
use Rattle.eb_bytes.specs.Text.{Text}
use Rattle.printf_format.specs.declared.conversion.Kind.{Kind}
use Rattle.printf_format.specs.declared.conversion.Kind.TheVariants as kind
use Rattle.printf_format.specs.declared.escapes.Ending.{Ending}
use Rattle.printf_format.specs.declared.escapes.Ending.TheVariants as ending
use Rattle.printf_format.specs.declared.layout.Layout.{Layout}
use Rattle.printf_format.specs.declared.numeral.Numeral.{Numeral}
use Rattle.printf_format.specs.declared.numeral.Numeral.TheVariants as numerals
use Rattle.printf_format.specs.declared.number.Number.{Number}
use Rattle.printf_format.specs.Escapes.{spelled}
use Rattle.printf_format.specs.Words.{signed_of, text_of, unsigned_of}

-- a text without the byte 0, which no text holds
abbrev pub shown : Text → Text
shown t = filter (λ b. not (is_nul b)) t

abbrev pub blanks : ℕ → Text
blanks n = replicate n 32

abbrev pub zeros : ℕ → Text
zeros n = replicate n 48

-- a text of so many bytes, with blanks up to the width on one side
abbrev pub beside : Layout → ℕ → Text → Text
beside l n t = if l.left then t ++ blanks (l.width - n) else blanks (l.width - n) ++ t

-- a text up to a precision
abbrev pub cut : Option ℕ → Text → Text
cut None t = t
cut (Some n) t = take n t

-- a text; a byte 0 that an escape makes counts for the width and is not shown
abbrev pub text_field : Layout → Text → Text
text_field l t = beside l (length (cut l.precision t)) (shown (cut l.precision t))

-- the first byte of a word, or the byte 0
abbrev pub first_byte : Text → Text
first_byte [] = 0 ∷ []
first_byte (b ∷ t) = b ∷ []

-- that byte, whatever the precision is
abbrev pub byte_field : Layout → Text → Text
byte_field l t = beside l 1 (shown (first_byte t))

-- digits with zeros before them
abbrev pub with_zeros : (sign : Text) → ℕ → Text → Text
with_zeros sign n digits = sign ++ zeros n ++ digits

-- a sign and digits with so many zeros between, where so many bytes of the width are left
abbrev pub padded : Layout → (sign : Text) → (precise : ℕ) → Text → (left : ℕ) → Text
padded l sign precise digits left =
    if l.left then with_zeros sign precise digits ++ blanks left
    else (if l.zero && is_none l.precision then with_zeros sign left digits
    else blanks left ++ with_zeros sign precise digits)

-- a sign and digits: at least as many digits as the precision says
abbrev pub digits_field : Layout → (sign : Text) → Text → Text
digits_field l sign digits =
    padded l sign (unwrap_or l.precision 0 - length digits) digits
    (l.width - length sign - (unwrap_or l.precision 0 - length digits) - length digits)

-- the digits of a number: with the precision 0 a number 0 has none
abbrev pub digits_of : Option ℕ → ℕ → Text → Text
digits_of precision n digits = if n == 0 && unwrap_or precision 1 == 0 then [] else digits

-- `-`, with the flag `+` a plus, or nothing
abbrev pub sign_of : Layout → Bool → Text
sign_of l negative = if negative then codes "-" else (if l.plus then codes "+" else [])

abbrev pub signed_field : Layout → Number → Text
signed_field l n = digits_field l (sign_of l n.negative) (digits_of l.precision n.magnitude (decimal n.magnitude))

-- a number in digits
abbrev pub numeral : Numeral → ℕ → Text
numeral numerals.Decimal n = decimal n
numeral numerals.Octal n = radix_digits 8 false n
numeral numerals.Hexadecimal n = radix_digits 16 false n
numeral numerals.UpperHexadecimal n = radix_digits 16 true n

abbrev pub unsigned_field : Layout → Numeral → ℕ → Text
unsigned_field l digits n = digits_field l [] (digits_of l.precision n (numeral digits n))

-- what a field prints, and how it ends: the format goes on, a `\c` ends the output, or it is at fault
pub record Printed : Type 0 where
  pub text : Text
  pub ending : Ending

abbrev pub goes_on : Text → Printed
goes_on t = record { text = t; ending = ending.Through }

abbrev pub bad_use : Printed
bad_use = record { text = []; ending = ending.BadUse }

abbrev pub signed : Layout → Option Number → Printed
signed l None = bad_use
signed l (Some n) = goes_on (signed_field l n)

abbrev pub unsigned : Layout → Numeral → Option ℕ → Printed
unsigned l digits None = bad_use
unsigned l digits (Some n) = goes_on (unsigned_field l digits n)

-- the field of a conversion, a layout and a word, where one is left
abbrev pub field_of : Kind → Layout → Option Text → Printed
field_of kind.Text l w = goes_on (text_field l (text_of w))
field_of kind.Escaped l w = record { text = text_field l (spelled (text_of w)).text; ending = (spelled (text_of w)).ending }
field_of kind.Byte l w = goes_on (byte_field l (text_of w))
field_of kind.Signed l w = signed l (signed_of w)
field_of kind.Unsigned l w = unsigned l numerals.Decimal (unsigned_of w)
field_of kind.Octal l w = unsigned l numerals.Octal (unsigned_of w)
field_of kind.Hexadecimal l w = unsigned l numerals.Hexadecimal (unsigned_of w)
field_of kind.UpperHexadecimal l w = unsigned l numerals.UpperHexadecimal (unsigned_of w)
