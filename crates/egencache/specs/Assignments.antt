-- The assignments of an ebuild of plain lines, and what its variables hold after them.
use Rattle.std.specs.Prelude.{ℕ, ◌+◌, Bool, true, false, List, [], ◌∷◌, Option, Some, None, nat_eq, if◌then◌else◌, unwrap_or}
use Rattle.std.specs.Cmp.Lexicographic.{pointwise}
use Rattle.eb_bytes.specs.Text.{Text, lines}
use Rattle.egencache.specs.Plain.{PlainLine, Nothing, Assigns, Other, plain_line}

abbrev pub is_text : Text → Text → Bool
is_text a b = pointwise nat_eq a b

-- ---- which texts are plain

abbrev pub is_plain : PlainLine → Bool
is_plain Nothing = true
is_plain (Assigns name value) = true
is_plain Other = false

-- the number of the first of these lines that is not plain, where they are counted from n on
abbrev pub bad_line_from : ℕ → List Text → Option ℕ
bad_line_from n [] = None
bad_line_from n (line ∷ lines) = if is_plain (plain_line line) then bad_line_from (n + 1) lines else Some n

abbrev pub bad_line : Text → Option ℕ
bad_line text = bad_line_from 1 (lines text)

-- ---- the variables

pub record Assigned : Type 0 where
  pub name : Text
  pub value : Text

-- the assignment of a line, if it is one, and those of the lines after it
abbrev pub with_line : PlainLine → List Assigned → List Assigned
with_line Nothing rest = rest
with_line (Assigns name value) rest = record { name = name; value = value } ∷ rest
with_line Other rest = rest

-- the assignments of the lines, in order
abbrev pub assignments_of : List Text → List Assigned
assignments_of [] = []
assignments_of (line ∷ lines) = with_line (plain_line line) (assignments_of lines)

abbrev pub later_or : Option Text → Option Text → Option Text
later_or None earlier = earlier
later_or (Some later) earlier = Some later

-- the value that an assignment gives the name, if it does
abbrev pub value_if : Text → Assigned → Option Text
value_if name a = if is_text a.name name then Some a.value else None

-- the value that the last assignment to the name gives it, if there is one
abbrev pub variable : Text → List Assigned → Option Text
variable name [] = None
variable name (a ∷ rest) = later_or (variable name rest) (value_if name a)

-- the variable's text, empty where it is unset
abbrev pub text_of : Text → List Assigned → Text
text_of name list = unwrap_or (variable name list) []
