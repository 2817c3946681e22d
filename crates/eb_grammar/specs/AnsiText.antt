-- What the text between `$'` and `'` stands for. Bash Reference Manual, "ANSI-C Quoting".
use Rattle.std.specs.Prelude.{ℕ, zero, suc, ◌+◌, ◌*◌, ◌-◌, ◌%◌, Bool, true, false, ◌==◌, ◌||◌, ◌&&◌, nat_le, Option, Some, None, List, [], ◌∷◌, ◌++◌, length, take, drop, if◌then◌else◌}
use Rattle.std.specs.List.{list_any, take_while}
use Rattle.byte_class.specs.Class.{is_digit}
use Rattle.eb_bytes.specs.Text.{Text}
use Rattle.eb_grammar.specs.declared.ansi.Base.{Base}
use Rattle.eb_grammar.specs.declared.ansi.Base.TheVariants.{Octal, Hexadecimal}
use Rattle.eb_grammar.specs.declared.ansi.Meaning.{Meaning}
use Rattle.eb_grammar.specs.declared.ansi.Meaning.TheVariants.{Byte, End, Nothing, Refused}
use Rattle.eb_grammar.specs.Peg.{◌∈◌}

-- the byte that a backslash and this letter stand for
abbrev pub letter_of : ℕ → Option ℕ
letter_of c =
    if c == 97 then Some 7  -- a
    else (if c == 98 then Some 8  -- b
    else (if c ∈ "eE" then Some 27
    else (if c == 102 then Some 12  -- f
    else (if c == 110 then Some 10  -- n
    else (if c == 114 then Some 13  -- r
    else (if c == 116 then Some 9  -- t
    else (if c == 118 then Some 11  -- v
    else (if c ∈ "\\'\"?" then Some c
    else None))))))))

-- \nnn has one to three octal digits, \xHH one or two hexadecimal ones
abbrev pub radix : Base → ℕ
radix Octal = 8
radix Hexadecimal = 16

abbrev pub most_digits : Base → ℕ
most_digits Octal = 3
most_digits Hexadecimal = 2

abbrev pub is_digit_of : Base → ℕ → Bool
is_digit_of Octal b = nat_le 48 b && nat_le b 55
is_digit_of Hexadecimal b = is_digit b || (nat_le 65 b && nat_le b 70) || (nat_le 97 b && nat_le b 102)

abbrev pub digit_value : ℕ → ℕ
digit_value b = if is_digit b then b - 48 else (if nat_le 97 b then b - 87 else b - 55)

-- the number that digits write after those that write `n`
abbrev pub value_from : ℕ → ℕ → Text → ℕ
value_from radix n [] = n
value_from radix n (d ∷ ds) = value_from radix (n * radix + digit_value d) ds

-- the digits that a text begins with
abbrev pub digits_at : Base → Text → Text
digits_at base text = take_while (is_digit_of base) (take (most_digits base) text)

-- a number is a byte, modulo 256; the byte 0, which no text holds, is nothing (own)
abbrev pub meaning_of : ℕ → Meaning
meaning_of n = if n % 256 == 0 then Nothing else Byte (n % 256)

-- A part of the text is what it means, and how many bytes it has.
abbrev pub itself : ℕ → Meaning × ℕ
itself b = (Byte b, 1)

-- digits, with this many bytes before them
abbrev pub numbered : Base → ℕ → Text → Meaning × ℕ
numbered base before digits = (meaning_of (value_from (radix base) 0 digits), before + length digits)

-- `\x` and its digits; without any the backslash stands for itself
abbrev pub hexadecimal : Text → Meaning × ℕ
hexadecimal [] = itself 92
hexadecimal (d ∷ ds) = numbered Hexadecimal 2 (d ∷ ds)

abbrev pub lettered : Option ℕ → Meaning × ℕ
lettered None = itself 92
lettered (Some b) = (Byte b, 2)

-- a backslash before this text: with `u`, `U` or `c`, with `x` and one or two hexadecimal digits, with one to three
-- octal digits, with another letter, or by itself
abbrev pub escape : Text → Meaning × ℕ
escape [] = itself 92
escape (c ∷ text) =
    if c ∈ "uUc" then (Refused c, 2)
    else (if c == 120 then hexadecimal (digits_at Hexadecimal text)
    else (if is_digit_of Octal c then numbered Octal 1 (digits_at Octal (c ∷ text))
    else lettered (letter_of c)))

-- the part that a text begins with
abbrev pub part_of : Text → Meaning × ℕ
part_of [] = (End, 0)
part_of (b ∷ text) = if b == 92 then escape text else itself b

abbrev pub before : Meaning → List Meaning → List Meaning
before End others = []
before part others = part ∷ others

-- what the parts of a text mean, up to its end; each has a byte, so that there are at most as many as bytes
abbrev pub parts_from : ℕ → Text → List Meaning
parts_from zero text = []
parts_from (suc n) text = before (part_of text).0 (parts_from n (drop (part_of text).1 text))

-- an escape that is refused stays as it is written
abbrev pub made_by : Meaning → Text
made_by (Byte b) = b ∷ []
made_by Nothing = []
made_by End = []
made_by (Refused c) = 92 ∷ c ∷ []

abbrev pub made : List Meaning → Text
made [] = []
made (part ∷ parts) = made_by part ++ made parts

abbrev pub is_refused : Meaning → Bool
is_refused (Refused c) = true
is_refused other = false

-- the text with each escape replaced by the byte that it stands for; any other backslash stays
unfoldable pub ansi_text : Text → Text
ansi_text text = made (parts_from (length text) text)

-- whether the text has an escape that is refused: `\u`, `\U` or `\c`
unfoldable pub has_refused_escape : Text → Bool
has_refused_escape text = list_any is_refused (parts_from (length text) text)
