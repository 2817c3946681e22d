-- How a bracket expression is read (Bash Reference Manual, "Pattern Matching").
use Rattle.std.specs.Prelude.{ℕ, zero, suc, Bool, true, false, ◌==◌, ◌&&◌, ◌||◌, List, [], ◌∷◌, ◌++◌, drop, length, Option, Some, None, codes, if◌then◌else◌}
use Rattle.std.specs.Option.{is_none}
use Rattle.eb_bytes.specs.Text.{Text}
use Rattle.bash_patterns.specs.declared.class.Class.{Class}
use Rattle.bash_patterns.specs.declared.class.Class.TheVariants.{Alnum, Alpha, Blank, Cntrl, Digit, Graph, Lower, Print, Punct, Space, Upper, Xdigit}
use Rattle.bash_patterns.specs.declared.bracket.Member.{Member}
use Rattle.bash_patterns.specs.declared.bracket.Member.TheVariants as member
use Rattle.bash_patterns.specs.declared.bracket.Bracket.{Bracket}
use Rattle.bash_patterns.specs.declared.symbol.Symbol.{Symbol}
use Rattle.bash_patterns.specs.declared.symbol.Symbol.TheVariants.{Unquoted, Quoted}
use Rattle.bash_patterns.specs.declared.symbol.Role.{Role}
use Rattle.bash_patterns.specs.declared.symbol.Role.TheVariants as role
use Rattle.bash_patterns.specs.Symbols.{byte_of, role_of}

-- how a class is written after its bracket
abbrev pub class_text : Class → Text
class_text Alnum = codes ":alnum:]"
class_text Alpha = codes ":alpha:]"
class_text Blank = codes ":blank:]"
class_text Cntrl = codes ":cntrl:]"
class_text Digit = codes ":digit:]"
class_text Graph = codes ":graph:]"
class_text Lower = codes ":lower:]"
class_text Print = codes ":print:]"
class_text Punct = codes ":punct:]"
class_text Space = codes ":space:]"
class_text Upper = codes ":upper:]"
class_text Xdigit = codes ":xdigit:]"

abbrev pub all_classes : List Class
all_classes = Alnum ∷ Alpha ∷ Blank ∷ Cntrl ∷ Digit ∷ Graph ∷ Lower ∷ Print ∷ Punct ∷ Space ∷ Upper ∷ Xdigit ∷ []

-- whether the symbols begin with these bytes, none of them quoted
abbrev pub begins_unquoted : Text → List Symbol → Bool
begins_unquoted [] ss = true
begins_unquoted (b ∷ t) [] = false
begins_unquoted (b ∷ t) (Unquoted c ∷ ss) = c == b && begins_unquoted t ss
begins_unquoted (b ∷ t) (Quoted c ∷ ss) = false

-- the class among these that the symbols begin with
abbrev pub class_among : List Class → List Symbol → Option Class
class_among [] ss = None
class_among (c ∷ cs) ss = if begins_unquoted (class_text c) ss then Some c else class_among cs ss

-- a member, and how many symbols after its first it takes
pub record Taken : Type 0 where
  pub member : Member
  pub more : ℕ

abbrev pub ends_at : Role → Symbol → Option ℕ
ends_at role.BracketClosing s = None
ends_at _ s = Some (byte_of s)

-- the last byte of the range whose first byte stands before these symbols, if it is one; `-` before the closing bracket
-- makes none
abbrev pub range_end : List Symbol → Option ℕ
range_end (Unquoted b ∷ s ∷ ss) = if b == 45 then ends_at (role_of s) s else None
range_end _ = None

abbrev pub range_or_byte : Symbol → Option ℕ → Taken
range_or_byte s None = record { member = member.Range (byte_of s) (byte_of s); more = 0 }
range_or_byte s (Some last) = record { member = member.Range (byte_of s) last; more = 2 }

abbrev pub class_or_byte : Symbol → List Symbol → Option Class → Taken
class_or_byte s ss None = range_or_byte s (range_end ss)
class_or_byte s ss (Some c) = record { member = member.Class c; more = length (class_text c) }

abbrev pub opened : Role → Symbol → List Symbol → Taken
opened role.BracketOpening s ss = class_or_byte s ss (class_among all_classes ss)
opened _ s ss = range_or_byte s (range_end ss)

-- the member that begins with this symbol
unfoldable pub member_at : Symbol → List Symbol → Taken
member_at s ss = opened (role_of s) s ss

-- the members up to the closing bracket, and what stands after it
pub record Closed : Type 0 where
  pub members : List Member
  pub rest : List Symbol

abbrev pub with_member : Member → Option Closed → Option Closed
with_member m None = None
with_member m (Some c) = Some (record c { members = m ∷ c.members })

-- a closing bracket that is not first
abbrev pub closes : Bool → Role → Bool
closes false role.BracketClosing = true
closes _ _ = false

-- `[` that is not quoted
abbrev pub is_opening : Symbol → Bool
is_opening (Unquoted b) = b == 91
is_opening (Quoted b) = false

-- the members from here on, after so many symbols that are taken already; none, where no bracket closes them
unfoldable pub members_from : Bool → ℕ → List Symbol → Option Closed
members_from first k [] = None
members_from first (suc k) (s ∷ ss) = members_from false k ss
members_from first zero (s ∷ ss) =
    if closes first (role_of s) then Some (record { members = []; rest = ss })
    else with_member (member_at s ss).member (members_from false (member_at s ss).more ss)

-- whether no bracket closes whose members go on with these symbols
unfoldable pub is_open : List Symbol → Bool
is_open ss = is_none (members_from false 0 ss)

-- the same of each end of the symbols, the shortest first
unfoldable pub open_ends : List Symbol → List Bool
open_ends [] = is_open [] ∷ []
open_ends (s ∷ ss) = open_ends ss ++ is_open (s ∷ ss) ∷ []

pub record Read : Type 0 where
  pub bracket : Bracket
  pub rest : List Symbol

abbrev pub as_bracket : Bool → Option Closed → Option Read
as_bracket negated None = None
as_bracket negated (Some c) = Some (record { bracket = record { negated = negated; members = c.members }; rest = c.rest })

abbrev pub negates : List Symbol → Bool
negates (Unquoted b ∷ ss) = b == 33 || b == 94
negates _ = false

-- the symbols that members begin with after an opening bracket
abbrev pub inside : List Symbol → List Symbol
inside ss = if negates ss then drop 1 ss else ss

-- the bracket expression whose opening bracket stands before these symbols, and what stands after it
unfoldable pub bracket_at : List Symbol → Option Read
bracket_at [] = None
bracket_at (s ∷ ss) =
    if negates (s ∷ ss) then as_bracket true (members_from true 0 ss) else as_bracket false (members_from true 0 (s ∷ ss))
