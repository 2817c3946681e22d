-- Lines of an ebuild that need no shell: blank lines, comments, and assignments of plain values.
use Rattle.std.specs.Prelude.{ℕ, Bool, ◌==◌, ◌&&◌, ◌||◌, not, [], ◌∷◌, drop, Option, Some, None, if◌then◌else◌}
use Rattle.std.specs.List.{list_all, list_any, prefix_len, take_while}
use Rattle.byte_class.specs.Class.{is_blank, is_letter_or_digit, is_name, is_name_byte, is_nul}
use Rattle.eb_bytes.specs.Text.{Text}

-- ---- bytes

-- what a value without quotes is made of: letters, digits and + _ . : / @ -
abbrev pub is_bare : ℕ → Bool
is_bare b = is_letter_or_digit b || b == 43 || b == 95 || b == 46 || b == 58 || b == 47 || b == 64 || b == 45

-- what a value in double quotes is made of: all bytes except the double quote, the dollar, the backquote, the backslash and 0
abbrev pub is_quotable : ℕ → Bool
is_quotable b = not (b == 34 || b == 36 || b == 96 || b == 92 || is_nul b)

-- ---- values

-- what follows the longest run of such bytes at the front
abbrev pub after_while : (ℕ → Bool) → Text → Text
after_while p t = drop (prefix_len p t) t

-- the value, where only blanks and tabs follow it
abbrev pub before_blanks : Text → Text → Option Text
before_blanks value rest = if list_all is_blank rest then Some value else None

abbrev pub bare_value : Text → Option Text
bare_value t = before_blanks (take_while is_bare t) (after_while is_bare t)

-- the value, where its closing quote comes next
abbrev pub closed_value : Text → Text → Option Text
closed_value value [] = None
closed_value value (b ∷ rest) = if b == 34 then before_blanks value rest else None

-- the value that is written so, bare or in double quotes, with blanks and tabs after it
abbrev pub spelled_value : Text → Option Text
spelled_value [] = Some []
spelled_value (b ∷ t) = if b == 34 then closed_value (take_while is_quotable t) (after_while is_quotable t) else bare_value (b ∷ t)

-- ---- lines

-- what a line is: a blank line or a comment; an assignment; or any other line, which is not plain
pub data PlainLine : Type 0 where
  Nothing : PlainLine
  Assigns : (name value : Text) → PlainLine
  Other : PlainLine

abbrev pub with_value : Text → Option Text → PlainLine
with_value name None = Other
with_value name (Some value) = Assigns name value

-- the assignment to this name, where an equals sign and a plain value come next
abbrev pub assigned_line : Text → Text → PlainLine
assigned_line name [] = Other
assigned_line name (b ∷ spelled) = if b == 61 && is_name name then with_value name (spelled_value spelled) else Other

-- a line from its first byte on that is no blank and no tab
abbrev pub line_from : Text → PlainLine
line_from [] = Nothing
line_from (b ∷ t) = if b == 35 then (if list_any is_nul t then Other else Nothing) else assigned_line (take_while is_name_byte (b ∷ t)) (after_while is_name_byte (b ∷ t))

abbrev pub plain_line : Text → PlainLine
plain_line line = line_from (after_while is_blank line)
