-- Bracket expressions: which bytes they match (Bash Reference Manual, "Pattern Matching").
use Rattle.std.specs.Prelude.{ℕ, Bool, ◌==◌, ◌&&◌, ◌||◌, not, nat_le, if◌then◌else◌}
use Rattle.std.specs.List.{list_any}
use Rattle.byte_class.specs.Class.{is_blank, is_digit, is_letter, is_letter_or_digit, is_lower, is_upper}
use Rattle.bash_patterns.specs.declared.class.Class.{Class}
use Rattle.bash_patterns.specs.declared.class.Class.TheVariants.{Alnum, Alpha, Blank, Cntrl, Digit, Graph, Lower, Print, Punct, Space, Upper, Xdigit}
use Rattle.bash_patterns.specs.declared.bracket.Member.{Member}
use Rattle.bash_patterns.specs.declared.bracket.Member.TheVariants as member
use Rattle.bash_patterns.specs.declared.bracket.Bracket.{Bracket}

-- the bytes from the first to the second
abbrev pub is_between : ℕ → ℕ → ℕ → Bool
is_between low high b = nat_le low b && nat_le b high

-- the classes of POSIX, in ASCII
abbrev pub in_class : Class → ℕ → Bool
in_class Alnum b = is_letter_or_digit b
in_class Alpha b = is_letter b
in_class Blank b = is_blank b
in_class Cntrl b = is_between 0 31 b || b == 127
in_class Digit b = is_digit b
in_class Graph b = is_between 33 126 b
in_class Lower b = is_lower b
in_class Print b = is_between 32 126 b
in_class Punct b = is_between 33 126 b && not (is_letter_or_digit b)
in_class Space b = is_between 9 13 b || b == 32
in_class Upper b = is_upper b
in_class Xdigit b = is_digit b || (is_between 65 70 b || is_between 97 102 b)

abbrev pub in_member : ℕ → Member → Bool
in_member b (member.Range low high) = is_between low high b
in_member b (member.Class class) = in_class class b

-- a byte that is a member; of a negated expression, one that is none
abbrev pub in_bracket : Bracket → ℕ → Bool
in_bracket set b = if set.negated then not (list_any (in_member b) set.members) else list_any (in_member b) set.members
