-- The function table: the functions of a shell in the order in which their names were first defined, and the tables
-- that open subshells bring back.
use Rattle.std.specs.Prelude.{ℕ, List, [], ◌∷◌, Option, Bool, map, nat_eq}
use Rattle.std.specs.Cmp.Lexicographic.{pointwise}
use Rattle.std.specs.Map.{lookup, remove_entry, keys_of}
use Rattle.std.specs.List.{IsDistinct}
use Rattle.std.specs.declared.vec.Vec.{Vec}
use Rattle.indexmap.specs.IndexMap.{insert_entry}
use Rattle.eb_bytes.specs.Text.{Text}
use Rattle.eb_syntax.specs.declared.tree.Command.{Command}

-- Names with their bodies.
abbrev pub Table : Type 0
Table = List (Text × Command)

-- The names and bodies that a map with the names as keys has, in the map's order.
abbrev pub names_as_bytes : {Alloc : Type 0} → List (Vec ℕ Alloc × Command) → Table
names_as_bytes entries = map (λ entry. (entry.0.items, entry.1)) entries

-- Whether two names are the same bytes.
abbrev pub is_name : Text → Text → Bool
is_name = pointwise nat_eq

-- The body of the function of this name, none where there is no such function.
abbrev pub body_of : Text → Table → Option Command
body_of name table = lookup (is_name name) table

-- The table with this body for this name: a new name goes to the end, a known one keeps its place.
abbrev pub with_body : Text → Command → Table → Table
with_body name body table = insert_entry is_name table name body

-- The table without the function of this name. The others keep their order.
abbrev pub without : Text → Table → Table
without name table = remove_entry (is_name name) table

-- No name stands twice in the table.
abbrev pub HasDistinctNames : Table → Type 0
HasDistinctNames table = IsDistinct is_name (keys_of table)

-- nor in any of these
abbrev pub AllDistinct : List Table → Type 0
AllDistinct [] = Unit {0}
AllDistinct (table ∷ tables) = HasDistinctNames table × AllDistinct tables

-- The present table, and one for each open subshell, the innermost first, which its end brings back.
pub record Tables : Type 0 where
  pub present : Table
  pub saved : List Table

abbrev pub HaveDistinctNames : Tables → Type 0
HaveDistinctNames tables = AllDistinct (tables.present ∷ tables.saved)

-- No functions, and no open subshell.
abbrev pub no_tables : Tables
no_tables = record { present = []; saved = [] }

-- The tables once this table is the present one.
abbrev pub now_present : Table → Tables → Tables
now_present table tables = record { present = table; saved = tables.saved }

-- The tables once one more subshell is open: its end brings the present one back.
abbrev pub open_sub : Tables → Tables
open_sub tables = record { present = tables.present; saved = tables.present ∷ tables.saved }

abbrev pub brought_back : List Table → Tables → Tables
brought_back [] tables = tables
brought_back (table ∷ others) tables = record { present = table; saved = others }

-- The tables at the end of the innermost subshell.
abbrev pub drop_sub : Tables → Tables
drop_sub tables = brought_back tables.saved tables
