-- `read` (Bash Reference Manual, "Bash Builtin Commands").
use Rattle.std.specs.Prelude.{ℕ, ◌+◌, Option, Some, None, Result, Ok, Err, List, [], ◌∷◌, codes, drop, length, map, if◌then◌else◌}
use Rattle.std.specs.FinMap as finite
use Rattle.eb_bytes.specs.Text.{Text}
use Rattle.shell_marks.specs.declared.marked.Mark.{Mark}
use Rattle.shell_vars.specs.Calls.{element}
use Rattle.shell_vars.specs.Elements.{Elements, put_from}
use Rattle.shell_vars.specs.Store.{Store}
use Rattle.shell_vars.specs.declared.error.VarErr.{VarErr}
use Rattle.shell_vars.specs.declared.value.Value.TheVariants as value
use Rattle.shell_state.specs.Outcome.{Doing, ◌>>◌, pure, refuse}
use Rattle.bash_assign.specs.Assignments.{assigns, sets}
use Rattle.bash_split.specs.Fields.{fields}
use Rattle.bash_read.specs.Lines.{Line, line}
use Rattle.bash_read.specs.Options.{Job, Options, Reads, Wrong, job}
use Rattle.bash_read.specs.Parts.{texts_for}
use Rattle.shell_marks.specs.Marks.{unquoted}

-- the text of IFS, and blank, tab and newline where it has none
abbrev pub or_blanks : Result (Option Text) VarErr → Text
or_blanks (Ok (Some t)) = t
or_blanks (Ok None) = 32 ∷ 9 ∷ 10 ∷ []
or_blanks (Err refused) = 32 ∷ 9 ∷ 10 ∷ []

abbrev pub ifs_of : Store → Text
ifs_of store = or_blanks (element (codes "IFS") None store)

-- texts as the elements of an array
abbrev pub array_of : List Text → Elements
array_of ts = put_from 0 ts finite.empty

-- each name takes its text, one after another
abbrev pub assigns_each : List Text → List Text → Doing (Unit {0})
assigns_each [] ts = pure tt
assigns_each (name ∷ names) [] = pure tt
assigns_each (name ∷ names) (t ∷ ts) = assigns name None t >> assigns_each names ts

-- without a name REPLY takes the line, unsplit; the last name takes the rest
abbrev pub assigns_names : Text → List Mark → List Text → Doing (Unit {0})
assigns_names ifs ms [] = assigns (codes "REPLY") None (unquoted ms)
assigns_names ifs ms (name ∷ names) = assigns_each (name ∷ names) (texts_for ifs (length names) ms)

abbrev pub assigns_line : Text → List Mark → Option Text → List Text → Doing (Unit {0})
assigns_line ifs ms None names = assigns_names ifs ms names
assigns_line ifs ms (Some array) names = sets array (value.Array (array_of (map unquoted (fields ifs ms))))

-- the line is taken from the input, and given to the names; the status is 1 exactly where the input ended first
abbrev pub takes : Options → List Text → Line → Doing ℕ
takes o names l at =
    (assigns_line (ifs_of at.store) l.marks o.array names >> pure (if l.ended then 0 else 1))
    (record at { io = record at.io { place = at.io.place + l.taken } })

abbrev pub does : Job → Doing ℕ
does (Reads o names) = λ at. takes o names (line o.raw o.delimiter (drop at.io.place at.io.input)) at
does (Wrong why) = refuse why

unfoldable pub read : List Text → Doing ℕ
read ws = does (job ws)
