-- Word splitting: the fields of a list of marks (Bash Reference Manual, "Word Splitting").
use Rattle.std.specs.Prelude.{ℕ, Bool, true, false, ◌==◌, ◌||◌, List, [], ◌∷◌, if◌then◌else◌}
use Rattle.std.specs.List.{list_any, onto_first}
use Rattle.shell_marks.specs.declared.marked.Mark.{Mark}
use Rattle.shell_marks.specs.declared.marked.Mark.TheVariants.{Literal, Result, Quoted, Empty, Break}
use Rattle.byte_class.specs.Class.{is_space}
use Rattle.eb_bytes.specs.Text.{Text}
use Rattle.bash_split.specs.declared.role.Role.{Role}
use Rattle.bash_split.specs.declared.role.Role.TheVariants.{Part, Blank, Separator, Border}

-- ---- what a mark does

-- whether IFS has this byte
abbrev pub has_byte : Text → ℕ → Bool
has_byte ifs b = list_any (λ c. c == b) ifs

-- a byte of a result that IFS has splits: blank, tab and newline as a blank, any other as a separator; a break is a
-- border; every other mark is part of a field
abbrev pub role : Text → Mark → Role
role ifs (Result b) = if has_byte ifs b then (if is_space b then Blank else Separator) else Part
role ifs (Literal b) = Part
role ifs (Quoted b) = Part
role ifs Empty = Part
role ifs Break = Border

abbrev pub is_part : Role → Bool
is_part Part = true
is_part Blank = false
is_part Separator = false
is_part Border = false

-- ---- fields

-- whether these marks begin with a part of a field
abbrev pub begins_with_part : Text → List Mark → Bool
begins_with_part ifs [] = false
begins_with_part ifs (m ∷ ms) = is_part (role ifs m)

-- whether a mark of this role is a separator, or a blank before one
abbrev pub leads_to_separator : Role → Bool → Bool
leads_to_separator Separator later = true
leads_to_separator Blank later = later
leads_to_separator Part later = false
leads_to_separator Border later = false

-- whether these marks begin with a separator, perhaps after blanks
abbrev pub separator_is_next : Text → List Mark → Bool
separator_is_next ifs [] = false
separator_is_next ifs (m ∷ ms) = leads_to_separator (role ifs m) (separator_is_next ifs ms)

-- whether a part before these marks belongs to the first of their fields: that field goes on after it, or it is the
-- one that the next separator ends
abbrev pub is_joined : Text → List Mark → Bool
is_joined ifs ms = begins_with_part ifs ms || separator_is_next ifs ms

-- the fields of a mark and of those after it: a part belongs to the first field, or is one by itself; a separator ends
-- a field, which is empty unless a part stands before it; blanks and borders are in no field
abbrev pub fields_from : Role → Mark → Bool → List (List Mark) → List (List Mark)
fields_from Part m joined rest = if joined then onto_first m rest else (m ∷ []) ∷ rest
fields_from Separator m joined rest = [] ∷ rest
fields_from Blank m joined rest = rest
fields_from Border m joined rest = rest

-- the fields of a list of marks, split by the bytes of IFS
abbrev pub fields : Text → List Mark → List (List Mark)
fields ifs [] = []
fields ifs (m ∷ ms) = fields_from (role ifs m) m (is_joined ifs ms) (fields ifs ms)
