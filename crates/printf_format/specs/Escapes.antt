-- The escapes of `echo -e`, of `%b` and of printf's format (Bash Reference Manual, "Bash Builtin Commands", `echo` and
-- `printf`).
use Rattle.std.specs.Prelude.{ℕ, zero, suc, ◌%◌, ◌==◌, ◌||◌, ◌&&◌, nat_le, unwrap_or, Option, Some, None, List, [], ◌∷◌, take, drop, length, if◌then◌else◌}
use Rattle.eb_bytes.specs.Text.{Text}
use Rattle.printf_format.specs.declared.digits.Base.{Base}
use Rattle.printf_format.specs.declared.digits.Base.TheVariants.{Octal, Hexadecimal}
use Rattle.printf_format.specs.declared.escapes.Ending.{Ending}
use Rattle.printf_format.specs.declared.escapes.Ending.TheVariants as ending
use Rattle.printf_format.specs.declared.escapes.Meaning.{Meaning}
use Rattle.printf_format.specs.declared.escapes.Meaning.TheVariants.{Byte, End, Stop, Refused}
use Rattle.printf_format.specs.Digits.{digit_count, number_in}

-- the byte that a backslash and this letter stand for
abbrev pub letter_of : ℕ → Option ℕ
letter_of c =
    if c == 97 then Some 7  -- a
    else (if c == 98 then Some 8  -- b
    else (if c == 101 || c == 69 then Some 27  -- e, E
    else (if c == 102 then Some 12  -- f
    else (if c == 110 then Some 10  -- n
    else (if c == 114 then Some 13  -- r
    else (if c == 116 then Some 9  -- t
    else (if c == 118 then Some 11  -- v
    else (if c == 92 then Some 92
    else None))))))))

-- What stands at the begin of a text is what it means, and the text after it.

-- the byte that so many digits write, modulo 256
abbrev pub counted : Base → ℕ → Text → Meaning × Text
counted base n t = (Byte (unwrap_or (number_in base (take n t)) 0 % 256), drop n t)

-- at most so many digits
abbrev pub numbered : Base → ℕ → Text → Meaning × Text
numbered base most t = counted base (digit_count base most t) t

-- one or two hexadecimal digits; without any, the backslash before `after` stands for itself
abbrev pub hexadecimal : Text → Text → Meaning × Text
hexadecimal after t = if digit_count Hexadecimal 2 t == 0 then (Byte 92, after) else numbered Hexadecimal 2 t

-- the byte of a letter; of any other, the backslash before `after` stands for itself
abbrev pub lettered : Text → Option ℕ → Text → Meaning × Text
lettered after None t = (Byte 92, after)
lettered after (Some b) t = (Byte b, t)

-- a backslash before this text: `\u` and `\U` are refused, `\xHH`, `\0` with at most three octal digits, and letters
abbrev pub common_escape : Text → Meaning × Text
common_escape [] = (Byte 92, [])
common_escape (c ∷ t) =
    if c == 117 || c == 85 then (Refused, t)
    else (if c == 120 then hexadecimal (c ∷ t) t
    else (if c == 48 then numbered Octal 3 t
    else lettered (c ∷ t) (letter_of c) t))

-- of `echo -e` and of `%b`: `\c` ends the output
abbrev pub echo_escape : Text → Meaning × Text
echo_escape [] = (Byte 92, [])
echo_escape (c ∷ t) = if c == 99 then (Stop, t) else common_escape (c ∷ t)

-- of printf's format: `\"`, and `\nnn` with one to three octal digits
abbrev pub format_escape : Text → Meaning × Text
format_escape [] = (Byte 92, [])
format_escape (c ∷ t) =
    if c == 34 then (Byte 34, t)
    else (if nat_le 49 c && nat_le c 55 then numbered Octal 3 (c ∷ t)
    else common_escape (c ∷ t))

-- the part of a text with echo's escapes that it begins with
abbrev pub part_of : Text → Meaning × Text
part_of [] = (End, [])
part_of (b ∷ t) = if b == 92 then echo_escape t else (Byte b, t)

-- what a text with escapes stands for, and what ends it
pub record Spelled : Type 0 where
  pub text : Text
  pub ending : Ending

-- what a part stands for, with what stands after it
abbrev pub with_part : Meaning → Spelled → Spelled
with_part (Byte b) s = record s { text = b ∷ s.text }
with_part End s = record { text = []; ending = ending.Through }
with_part Stop s = record { text = []; ending = ending.Stopped }
with_part Refused s = record { text = []; ending = ending.Quoting }

-- at most so many parts
abbrev pub spelled_in : ℕ → Text → Spelled
spelled_in zero t = record { text = []; ending = ending.Through }
spelled_in (suc n) t = with_part (part_of t).0 (spelled_in n (part_of t).1)

-- a text with echo's escapes; each part has a byte, so that there are at most as many as bytes
unfoldable pub spelled : Text → Spelled
spelled t = spelled_in (length t) t
