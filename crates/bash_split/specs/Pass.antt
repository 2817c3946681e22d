-- The pass over the marks: the fields that are still to end.
use Rattle.std.specs.Prelude.{◌≡◌, List, [], ◌∷◌, ◌++◌, if◌then◌else◌}
use Rattle.shell_marks.specs.declared.marked.Mark.{Mark}
use Rattle.eb_bytes.specs.Text.{Text}
use Rattle.bash_split.specs.declared.place.Place.{Place}
use Rattle.bash_split.specs.declared.place.Place.TheVariants.{Outside, Within, After}
use Rattle.bash_split.specs.declared.role.Role.{Role}
use Rattle.bash_split.specs.declared.role.Role.TheVariants.{Part}
use Rattle.bash_split.specs.Fields.{fields, is_joined, role, separator_is_next}

-- marks before the first field
abbrev pub onto_first_all : List Mark → List (List Mark) → List (List Mark)
onto_first_all begun [] = begun ∷ []
onto_first_all begun (part ∷ parts) = (begun ++ part) ∷ parts

abbrev pub rest_of : List (List Mark) → List (List Mark)
rest_of [] = []
rest_of (part ∷ parts) = parts

-- the fields that end from here on, where these marks are left
abbrev pub fields_left : Text → Place → List Mark → List (List Mark)
fields_left ifs Outside ms = fields ifs ms
fields_left ifs (Within begun) ms = if is_joined ifs ms then onto_first_all begun (fields ifs ms) else begun ∷ fields ifs ms
fields_left ifs After ms = if separator_is_next ifs ms then rest_of (fields ifs ms) else fields ifs ms

-- going over a mark from one place to the next, with the fields that had ended before and those that have ended then:
-- whatever marks follow, the fields of all are the same
abbrev pub TakesMark : Text → Mark → Place → List (List Mark) → List (List Mark) → Place → Type 0
TakesMark ifs m place before now next = (ms : List Mark) → now ++ fields_left ifs next ms ≡ before ++ fields_left ifs place (m ∷ ms)

-- the same of each mark of a role
abbrev pub TakesRole : Role → Place → List (List Mark) → List (List Mark) → Place → Type 0
TakesRole r place before now next = (ifs : Text) (m : Mark) → role ifs m ≡ r → TakesMark ifs m place before now next

-- the same of one mark where it is a part, which ends no field
abbrev pub TakesPart : Mark → Place → Place → Type 0
TakesPart m place next = (ifs : Text) (ms : List Mark) → role ifs m ≡ Part → fields_left ifs next ms ≡ fields_left ifs place (m ∷ ms)
