-- What printf's format is made of (Bash Reference Manual, "Bash Builtin Commands", `printf`; POSIX, "File Format
-- Notation").
use Rattle.std.specs.Prelude.{ℕ, zero, suc, ◌^◌, Bool, ◌==◌, ◌||◌, nat_lt, Option, Some, None, List, [], ◌∷◌, take, drop, length, if◌then◌else◌}
use Rattle.std.specs.List.{list_any, prefix_len}
use Rattle.std.specs.Option.{option_map}
use Rattle.byte_class.specs.Class.{is_digit}
use Rattle.eb_bytes.specs.Text.{Text}
use Rattle.printf_format.specs.declared.conversion.Conversion.{Conversion}
use Rattle.printf_format.specs.declared.conversion.Flags.{Flags}
use Rattle.printf_format.specs.declared.conversion.Kind.{Kind}
use Rattle.printf_format.specs.declared.conversion.Kind.TheVariants as kind
use Rattle.printf_format.specs.declared.conversion.Size.{Size}
use Rattle.printf_format.specs.declared.conversion.Size.TheVariants.{Given, Word}
use Rattle.printf_format.specs.declared.digits.Base.TheVariants.{Decimal}
use Rattle.printf_format.specs.declared.escapes.Meaning.{Meaning}
use Rattle.printf_format.specs.declared.escapes.Meaning.TheVariants as meaning
use Rattle.printf_format.specs.declared.part.Part.{Part}
use Rattle.printf_format.specs.declared.part.Part.TheVariants as part
use Rattle.printf_format.specs.Digits.{number_in}
use Rattle.printf_format.specs.Escapes.{format_escape}

-- the conversions
abbrev pub kind_of : ℕ → Option Kind
kind_of c =
    if c == 115 then Some kind.Text  -- s
    else (if c == 98 then Some kind.Escaped  -- b
    else (if c == 99 then Some kind.Byte  -- c
    else (if c == 100 || c == 105 then Some kind.Signed  -- d, i
    else (if c == 117 then Some kind.Unsigned  -- u
    else (if c == 111 then Some kind.Octal  -- o
    else (if c == 120 then Some kind.Hexadecimal  -- x
    else (if c == 88 then Some kind.UpperHexadecimal  -- X
    else None)))))))

-- `-`, `0` and `+`
abbrev pub is_flag : ℕ → Bool
is_flag c = c == 45 || c == 48 || c == 43

abbrev pub flags_of : Text → Flags
flags_of t = record {
  left = list_any (λ c. c == 45) t;
  zero = list_any (λ c. c == 48) t;
  plus = list_any (λ c. c == 43) t;
}

-- the number of digits that may be none: 0 then
abbrev pub size_of : Text → Option ℕ
size_of [] = Some 0
size_of (d ∷ ds) = number_in Decimal (d ∷ ds)

-- a width or a precision is below 2^63
abbrev pub sized : Option ℕ → Option Size
sized None = None
sized (Some n) = if nat_lt n (2 ^ 63) then Some (Given n) else None

-- What stands at the begin of a text is what it says, none where it is no such thing, and the text after it.

-- a size of so many digits
abbrev pub digits_size : ℕ → Text → Option Size × Text
digits_size n t = (sized (size_of (take n t)), drop n t)

-- a width or a precision: `*`, or digits, perhaps none
abbrev pub size : Text → Option Size × Text
size [] = (Some (Given 0), [])
size (c ∷ t) = if c == 42 then (Some Word, t) else digits_size (prefix_len is_digit (c ∷ t)) (c ∷ t)

-- a precision after a `.`
abbrev pub precision : Text → Option (Option Size) × Text
precision [] = (Some None, [])
precision (c ∷ t) = if c == 46 then (option_map Some (size t).0, (size t).1) else (Some None, c ∷ t)

-- a conversion of these parts
abbrev pub whole : Flags → Option Size → Option (Option Size) → Option Kind → Part
whole flags (Some width) (Some precision) (Some kind) =
    part.Field (record { flags = flags; width = width; precision = precision; kind = kind })
whole flags width precision kind = part.BadUse

abbrev pub ended : Flags → Option Size → Option (Option Size) → Text → Part × Text
ended flags width precision [] = (part.BadUse, [])
ended flags width precision (c ∷ t) = (whole flags width precision (kind_of c), t)

abbrev pub after_width : Flags → Option Size → Text → Part × Text
after_width flags width t = ended flags width (precision t).0 (precision t).1

abbrev pub after_flags : Flags → Text → Part × Text
after_flags flags t = after_width flags (size t).0 (size t).1

abbrev pub flagged : ℕ → Text → Part × Text
flagged n t = after_flags (flags_of (take n t)) (drop n t)

-- a `%` before this text: `%%` is a `%`, anything else is flags, a width, a precision and the letter of a conversion
abbrev pub directive : Text → Part × Text
directive [] = (part.BadUse, [])
directive (c ∷ t) = if c == 37 then (part.Byte 37, t) else flagged (prefix_len is_flag (c ∷ t)) (c ∷ t)

-- what an escape of the format is
abbrev pub escaped : Meaning → Part
escaped (meaning.Byte b) = part.Byte b
escaped meaning.Refused = part.Quoting
escaped meaning.Stop = part.End
escaped meaning.End = part.End

-- the part of a format that it begins with
abbrev pub part_of : Text → Part × Text
part_of [] = (part.End, [])
part_of (c ∷ t) =
    if c == 37 then directive t
    else (if c == 92 then (escaped (format_escape t).0, (format_escape t).1)
    else (part.Byte c, t))

-- at most so many parts
abbrev pub parts_in : ℕ → Text → List Part
parts_in zero t = []
parts_in (suc n) t = (part_of t).0 ∷ parts_in n (part_of t).1

-- the parts of a format; each has a byte, so that as many as bytes are all, and perhaps the end more than once
abbrev pub parts : Text → List Part
parts t = parts_in (length t) t
