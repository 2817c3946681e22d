-- How `read` gives a line to names (Bash Reference Manual, "Bash Builtin Commands", `read`; "Word Splitting").
use Rattle.std.specs.Prelude.{ℕ, zero, suc, ◌-◌, Bool, true, false, List, [], ◌∷◌, drop, length, reverse, take, if◌then◌else◌}
use Rattle.std.specs.List.{prefix_len}
use Rattle.shell_marks.specs.declared.marked.Mark.{Mark}
use Rattle.shell_marks.specs.Marks.{unquoted}
use Rattle.eb_bytes.specs.Text.{Text}
use Rattle.bash_split.specs.declared.role.Role.{Role}
use Rattle.bash_split.specs.declared.role.Role.TheVariants.{Part, Blank, Separator, Border}
use Rattle.bash_split.specs.Fields.{fields, is_part, role}

abbrev pub is_blank_role : Role → Bool
is_blank_role Blank = true
is_blank_role Part = false
is_blank_role Separator = false
is_blank_role Border = false

abbrev pub is_ifs_blank : Text → Mark → Bool
is_ifs_blank ifs m = is_blank_role (role ifs m)

abbrev pub is_field_mark : Text → Mark → Bool
is_field_mark ifs m = is_part (role ifs m)

-- without the IFS blanks at the begin
abbrev pub after_blanks : Text → List Mark → List Mark
after_blanks ifs ms = drop (prefix_len (is_ifs_blank ifs) ms) ms

abbrev pub blanks_at_end : Text → List Mark → ℕ
blanks_at_end ifs ms = prefix_len (is_ifs_blank ifs) (reverse ms)

abbrev pub without_end : Text → List Mark → List Mark
without_end ifs ms = take (length ms - blanks_at_end ifs ms) ms

-- without those at the end either
abbrev pub trimmed : Text → List Mark → List Mark
trimmed ifs ms = without_end ifs (after_blanks ifs ms)

-- how many marks the field has that marks begin with
abbrev pub field_length : Text → List Mark → ℕ
field_length ifs ms = prefix_len (is_field_mark ifs) ms

-- the field that marks begin with, after their IFS blanks
abbrev pub first_field : Text → List Mark → List Mark
first_field ifs ms = take (field_length ifs (after_blanks ifs ms)) (after_blanks ifs ms)

abbrev pub is_separator_role : Role → Bool
is_separator_role Separator = true
is_separator_role Part = false
is_separator_role Blank = false
is_separator_role Border = false

-- without one other byte of IFS
abbrev pub after_separator : Text → List Mark → List Mark
after_separator ifs [] = []
after_separator ifs (m ∷ ms) = if is_separator_role (role ifs m) then ms else m ∷ ms

-- what is left after that field and its delimiter: IFS blanks with at most one other byte of IFS
abbrev pub after_field : Text → List Mark → List Mark
after_field ifs ms = after_separator ifs (after_blanks ifs (drop (field_length ifs (after_blanks ifs ms)) (after_blanks ifs ms)))

-- the text of the last name: the rest without IFS blanks round it, or, where that is one field and its delimiter, the field
abbrev pub whole_or_field : List (List Mark) → List Mark → Text
whole_or_field (field ∷ []) rest = unquoted field
whole_or_field parts rest = unquoted rest

abbrev pub last_text : Text → List Mark → Text
last_text ifs ms = whole_or_field (fields ifs ms) (trimmed ifs ms)

-- the texts of so many names and one more
abbrev pub texts_for : Text → ℕ → List Mark → List Text
texts_for ifs zero ms = last_text ifs ms ∷ []
texts_for ifs (suc n) ms = unquoted (first_field ifs ms) ∷ texts_for ifs n (after_field ifs ms)
