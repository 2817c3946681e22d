-- The laws of word splitting.
use Rattle.std.specs.Prelude.{Bool, true, false, not, List, [], ◌∷◌}
use Rattle.shell_marks.specs.declared.marked.Mark.{Mark}
use Rattle.shell_marks.specs.declared.marked.Mark.TheVariants.{Literal, Result, Quoted, Empty, Break}
use Rattle.eb_bytes.specs.Text.{Text}
use Rattle.bash_split.specs.declared.role.Role.{Role}
use Rattle.bash_split.specs.declared.role.Role.TheVariants.{Part, Blank, Separator, Border}
use Rattle.bash_split.specs.Fields.{role, is_part}

-- whether a mark stays in a field: all do but borders and the bytes of results that IFS has
abbrev pub stays : Text → Mark → Bool
stays ifs m = is_part (role ifs m)

-- whether a mark stays in no field
abbrev pub divides : Text → Mark → Bool
divides ifs m = not (stays ifs m)

abbrev pub is_separator_role : Role → Bool
is_separator_role Separator = true
is_separator_role Part = false
is_separator_role Blank = false
is_separator_role Border = false

-- whether a mark ends a field by itself: a byte of a result that IFS has, and neither blank, tab nor newline
abbrev pub is_separator : Text → Mark → Bool
is_separator ifs m = is_separator_role (role ifs m)

abbrev pub is_break : Mark → Bool
is_break Break = true
is_break (Literal b) = false
is_break (Result b) = false
is_break (Quoted b) = false
is_break Empty = false

-- whether splitting cannot touch a mark, whatever IFS is
abbrev pub is_fixed : Mark → Bool
is_fixed (Literal b) = true
is_fixed (Quoted b) = true
is_fixed Empty = true
is_fixed (Result b) = false
is_fixed Break = false

abbrev pub has_marks : List Mark → Bool
has_marks [] = false
has_marks (m ∷ ms) = true

-- all but a last field without marks
abbrev pub without_empty_end : List (List Mark) → List (List Mark)
without_empty_end [] = []
without_empty_end ([] ∷ []) = []
without_empty_end (part ∷ parts) = part ∷ without_empty_end parts
