-- The symbols of a pattern: its bytes, and which are quoted.
use Rattle.std.specs.Prelude.{ℕ, Bool, true, false, ◌==◌, List, [], ◌∷◌, if◌then◌else◌}
use Rattle.shell_marks.specs.declared.marked.Mark.{Mark}
use Rattle.shell_marks.specs.declared.marked.Mark.TheVariants as mark
use Rattle.bash_patterns.specs.declared.symbol.Symbol.{Symbol}
use Rattle.bash_patterns.specs.declared.symbol.Symbol.TheVariants.{Unquoted, Quoted}
use Rattle.bash_patterns.specs.declared.symbol.Role.{Role}
use Rattle.bash_patterns.specs.declared.symbol.Role.TheVariants as role

-- the symbols that an unquoted byte adds, and whether it is a backslash that quotes what follows
abbrev pub from_unquoted : Bool → ℕ → (Bool → List Symbol) → List Symbol
from_unquoted true b rest = Quoted b ∷ rest false
from_unquoted false b rest = if b == 92 then rest true else Unquoted b ∷ rest false

-- the symbols of marks, where `quotes` says whether an unquoted backslash stands before them; one that nothing follows
-- is itself, and Empty and Break add nothing
abbrev pub symbols_behind : Bool → List Mark → List Symbol
symbols_behind true [] = Quoted 92 ∷ []
symbols_behind false [] = []
symbols_behind quotes (mark.Literal b ∷ ms) = from_unquoted quotes b (λ q. symbols_behind q ms)
symbols_behind quotes (mark.Result b ∷ ms) = from_unquoted quotes b (λ q. symbols_behind q ms)
symbols_behind quotes (mark.Quoted b ∷ ms) = Quoted b ∷ symbols_behind false ms
symbols_behind quotes (mark.Empty ∷ ms) = symbols_behind quotes ms
symbols_behind quotes (mark.Break ∷ ms) = symbols_behind quotes ms

abbrev pub symbols_of : List Mark → List Symbol
symbols_of ms = symbols_behind false ms

abbrev pub byte_of : Symbol → ℕ
byte_of (Unquoted b) = b
byte_of (Quoted b) = b

-- what an unquoted byte can do
abbrev pub byte_role : ℕ → Role
byte_role b =
    if b == 40 then role.GroupOpening
    else (if b == 41 then role.GroupClosing
    else (if b == 124 then role.Bar
    else (if b == 91 then role.BracketOpening
    else (if b == 93 then role.BracketClosing
    else (if b == 42 then role.Star
    else (if b == 63 then role.Question
    else role.Other))))))

abbrev pub role_of : Symbol → Role
role_of (Unquoted b) = byte_role b
role_of (Quoted b) = role.Other
