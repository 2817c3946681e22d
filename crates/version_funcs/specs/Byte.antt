-- Classes of bytes, and runs of them.
use Rattle.std.specs.Prelude.{ℕ, Bool, ◌==◌, ◌||◌, not, drop}
use Rattle.std.specs.List.{prefix_len}
use Rattle.byte_class.specs.Class.{is_digit, is_letter, is_lower, is_zero}
use Rattle.eb_bytes.specs.Text.{Text}
use Rattle.version_funcs.specs.declared.class.Class.{Class}
use Rattle.version_funcs.specs.declared.class.Class.TheVariants as class

abbrev pub is_digit_or_dot : ℕ → Bool
is_digit_or_dot b = is_digit b || b == 46

-- what stands between the components of a text
abbrev pub is_separator : ℕ → Bool
is_separator b = not (is_digit b || is_letter b)

abbrev pub is_no : ℕ → ℕ → Bool
is_no mark b = not (b == mark)

-- the bytes of a class
abbrev pub in_class : Class → ℕ → Bool
in_class class.Digit b = is_digit b
in_class class.DigitOrDot b = is_digit_or_dot b
in_class class.Zero b = is_zero b
in_class class.Lower b = is_lower b
in_class class.Letter b = is_letter b
in_class class.Separator b = is_separator b
in_class (class.AllBut mark) b = is_no mark b

-- what stands after the longest run of such bytes at the front
abbrev pub after_while : (ℕ → Bool) → Text → Text
after_while p t = drop (prefix_len p t) t
