-- The marks that the parts of a word give (Bash Reference Manual, "Quoting", "Special Parameters", "Word Splitting").
use Rattle.std.specs.Prelude.{Bool, true, false, ◌&&◌, ◌||◌, not, List, [], ◌∷◌, ◌++◌, map, if◌then◌else◌}
use Rattle.std.specs.List.{join_by}
use Rattle.eb_bytes.specs.Text.{Text}
use Rattle.shell_marks.specs.declared.marked.Mark.{Mark}
use Rattle.shell_marks.specs.declared.marked.Mark.TheVariants.{Literal, Result, Quoted, Empty, Break}
pub use Rattle.shell_marks.specs.Marks.{unquoted}
use Rattle.word_meaning.specs.declared.mode.Mode.{Mode}
use Rattle.word_meaning.specs.declared.mode.Mode.TheVariants as mode

abbrev pub Marks : Type 0
Marks = List Mark

-- what parts give: their marks, and whether one of them is a list in double quotes that has no elements
pub record Given : Type 0 where
  pub marks : Marks
  pub has_no_elements : Bool

-- marks, and no such list
abbrev pub given : Marks → Given
given ms = record { marks = ms; has_no_elements = false }

-- what two parts give, the one after the other
abbrev pub followed : Given → Given → Given
followed g h = record { marks = g.marks ++ h.marks; has_no_elements = g.has_no_elements || h.has_no_elements }

-- the text that quote removal leaves
abbrev pub bytes_of : Given → Text
bytes_of g = unquoted g.marks

-- a pair of quotes round nothing is a mark   ("Word Splitting")
abbrev pub or_empty : Marks → Marks
or_empty [] = Empty ∷ []
or_empty (m ∷ ms) = m ∷ ms

-- a text in quotes   ("Single Quotes")
abbrev pub quoted_text : Text → Marks
quoted_text t = or_empty (map Quoted t)

-- what double quotes make of what stands in them: a list that has no elements there is nothing, not an empty field
abbrev pub in_quotes : Given → Given
in_quotes g = given (if g.has_no_elements then g.marks else or_empty g.marks)

-- the text of an expansion: quoted in double quotes, else a result, which is split
abbrev pub emitted : (quoted : Bool) → Text → Marks
emitted true t = map Quoted t
emitted false t = map Result t

-- the bytes of an operator's word are a result of the expansion, where they are not quoted
abbrev pub result : Mark → Mark
result (Literal b) = Result b
result (Result b) = Result b
result (Quoted b) = Quoted b
result Empty = Empty
result Break = Break

-- the word that stands for a value: it counts as a text, also where a list in it has no elements
abbrev pub as_value : Given → Given
as_value g = given (map result g.marks)

-- ---- lists   ("Special Parameters", @ and *; "Arrays")

-- an element that stays apart: in double quotes it is a field, also where it is empty
abbrev pub element : (quoted : Bool) → Text → Marks
element true t = quoted_text t
element false t = map Result t

-- the elements, with a border between each two
abbrev pub apart : (quoted : Bool) → List Text → Marks
apart quoted ts = join_by (element quoted) (Break ∷ []) ts

-- what stands between joined elements: a blank for `@`, the first byte of IFS for `*`
abbrev pub between : (star : Bool) → (first_of_ifs : Text) → Text
between true first = first
between false first = 32 ∷ []

-- the elements as one text
abbrev pub together : (star : Bool) → (first_of_ifs : Text) → List Text → Text
together star first ts = join_by (λ t. t) (between star first) ts

-- whether the elements stay apart: not where one text is wanted, nor those of `*` in double quotes
abbrev pub stay_apart : Mode → (quoted star : Bool) → Bool
stay_apart mode.Fields quoted star = not (quoted && star)
stay_apart mode.Text quoted star = false

abbrev pub has_elements : List Text → Bool
has_elements [] = false
has_elements (t ∷ ts) = true

-- what a list gives
abbrev pub listed : Mode → (quoted star : Bool) → (first_of_ifs : Text) → List Text → Given
listed m quoted star first ts = record {
  marks = if stay_apart m quoted star then apart quoted ts else emitted quoted (together star first ts);
  has_no_elements = quoted && not star && not (has_elements ts);
}
