-- The bytes of marks.
use Rattle.std.specs.Prelude.{ℕ, List, Option, Some, None}
use Rattle.std.specs.List.{filter_map}
use Rattle.eb_bytes.specs.Text.{Text}
use Rattle.shell_marks.specs.declared.marked.Mark.{Mark}
use Rattle.shell_marks.specs.declared.marked.Mark.TheVariants.{Literal, Result, Quoted, Empty, Break}
use Rattle.shell_marks.specs.declared.marked.Origin.{Origin}
use Rattle.shell_marks.specs.declared.marked.Origin.TheVariants as origin

-- the mark of a byte that comes from there
abbrev pub marked : Origin → ℕ → Mark
marked origin.Literal b = Literal b
marked origin.Result b = Result b
marked origin.Quoted b = Quoted b

-- the byte of a mark, where it is one
abbrev pub byte_of : Mark → Option ℕ
byte_of (Literal b) = Some b
byte_of (Result b) = Some b
byte_of (Quoted b) = Some b
byte_of Empty = None
byte_of Break = None

-- the text that quote removal leaves: the bytes of the marks, in order
abbrev pub unquoted : List Mark → Text
unquoted ms = filter_map byte_of ms
