-- Parts of rules that have a reader of their own, and the end of a list of commands.
use Rattle.std.specs.Prelude.{List, [], ◌∷◌, map, Option, Some, None, Result, Ok, Err, if◌then◌else◌}
use Rattle.eb_syntax.specs.declared.tree.Items.{Items}
use Rattle.eb_syntax.specs.Tree.{Item}
use Rattle.eb_grammar.specs.Commands.{items_of}
use Rattle.eb_grammar.specs.Fill.{filled_item}
use Rattle.eb_grammar.specs.Names.{closer}
use Rattle.eb_grammar.specs.Peg.{Rule, Stop, No, ◌>>◌, ◌</>◌, end, ends, lit, not_at}
use Rattle.bash_cursor.specs.Seen.{Aside}

-- ";" !(";" / "&")
abbrev pub lone_semicolon : Rule (Unit {0})
lone_semicolon = lit ";" >> not_at (lit ";" </> lit "&")

-- "&" !("&" / ">")
abbrev pub lone_ampersand : Rule (Unit {0})
lone_ampersand = lit "&" >> not_at (lit "&" </> lit ">")

-- Closer / End
abbrev pub last_stop : Rule (Unit {0})
last_stop = closer </> end

-- "|" !"|"
abbrev pub lone_bar : Rule (Unit {0})
lone_bar = lit "|" >> not_at (lit "|")

-- the item of a turn, if it reads one
abbrev pub listed : {A : Type 0} → Option A → List A
listed None = []
listed (Some a) = a ∷ []

-- the node of a list with these marks and bodies at its end, which is none where a mark waits
unfoldable pub closing : List Item → Aside → Result Items Stop
closing found own = if ends own.waiting then Ok (items_of (map (filled_item own.bodies) found)) else Err No
