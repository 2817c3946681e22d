-- Classes of bytes, and shell names.
use Rattle.std.specs.Prelude.{ℕ, Bool, List, [], ◌∷◌, ◌==◌, ◌||◌, ◌&&◌, false, nat_le}
use Rattle.std.specs.List.{list_all}

-- the byte 0, which no text of a shell holds
abbrev pub is_nul : ℕ → Bool
is_nul b = b == 0

-- blank and tab
abbrev pub is_blank : ℕ → Bool
is_blank b = b == 32 || b == 9

-- what stands between two words: blank, tab and newline
abbrev pub is_space : ℕ → Bool
is_space b = b == 32 || b == 9 || b == 10

abbrev pub is_newline : ℕ → Bool
is_newline b = b == 10

-- 0 to 9
abbrev pub is_digit : ℕ → Bool
is_digit b = nat_le 48 b && nat_le b 57

-- the digit 0
abbrev pub is_zero : ℕ → Bool
is_zero b = b == 48

-- a to z
abbrev pub is_lower : ℕ → Bool
is_lower b = nat_le 97 b && nat_le b 122

-- A to Z
abbrev pub is_upper : ℕ → Bool
is_upper b = nat_le 65 b && nat_le b 90

abbrev pub is_letter : ℕ → Bool
is_letter b = is_upper b || is_lower b

abbrev pub is_letter_or_digit : ℕ → Bool
is_letter_or_digit b = is_letter b || is_digit b

-- what begins a name: a letter or _
abbrev pub is_name_start : ℕ → Bool
is_name_start b = is_letter b || b == 95

-- what a name holds: letters, digits and _
abbrev pub is_name_byte : ℕ → Bool
is_name_byte b = is_name_start b || is_digit b

-- a name of a shell variable or function (Bash Reference Manual, "Definitions")
abbrev pub is_name : List ℕ → Bool
is_name [] = false
is_name (b ∷ bs) = is_name_start b && list_all is_name_byte bs
