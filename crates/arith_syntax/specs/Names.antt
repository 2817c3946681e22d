-- Names and the blanks of an expression (Bash Reference Manual, "Definitions": name).
use Rattle.std.specs.Prelude.{ℕ, Bool, false, ◌==◌, [], ◌∷◌, take, drop, filter, not, Option, Some, None, if◌then◌else◌}
use Rattle.std.specs.List.{prefix_len}
use Rattle.byte_class.specs.Class.{is_name_byte, is_name_start, is_space}
use Rattle.eb_bytes.specs.Text.{Text}

-- the text from its first byte on that is no blank, tab or newline
unfoldable pub after_blanks : Text → Text
after_blanks t = drop (prefix_len is_space t) t

abbrev pub is_quote : ℕ → Bool
is_quote b = b == 34

-- the text without its double quotes, which an expression does not see
abbrev pub without_quotes : Text → Text
without_quotes t = filter (λ b. not (is_quote b)) t

-- whether the text begins with a name
abbrev pub begins_name : Text → Bool
begins_name [] = false
begins_name (b ∷ t) = is_name_start b

abbrev pub name_len : Text → ℕ
name_len t = prefix_len is_name_byte t

-- the name that a text begins with, and what follows it
unfoldable pub name_at : Text → Option (Text × Text)
name_at t = if begins_name t then Some (take (name_len t) t, drop (name_len t) t) else None
