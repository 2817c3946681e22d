-- The declarations as parts of a run (Bash Reference Manual, "Bash Builtin Commands").
use Rattle.std.specs.Prelude.{ℕ, Bool, true, false, ◌||◌, ◌==◌, not, List, [], ◌∷◌, find, length, map, Option, None, Some, Result, Ok, Err, if◌then◌else◌}
use Rattle.byte_class.specs.Class.{is_name}
use Rattle.eb_bytes.specs.Text.{Text}
use Rattle.eb_syntax.specs.declared.parts.DeclName.{DeclName}
use Rattle.shell_state.specs.Outcome.{Doing, ◌>>=◌, ◌>>◌, pure, refuse}
use Rattle.shell_state.specs.Output.{prints}
use Rattle.shell_state.specs.declared.fault.Fault.TheVariants as fault
use Rattle.shell_vars.specs.Store.{Store}
use Rattle.shell_vars.specs.declared.error.VarErr.{VarErr}
use Rattle.bash_assign.specs.Assignments.{changed}
use Rattle.bash_assign.specs.declared.assignment.Assignment.{Assignment}
use Rattle.bash_declare.specs.Effects.{attributes_of, given_in, marked_with, named_in, place_of, subscript_of}
use Rattle.bash_declare.specs.Options.{name_of, options_of}
use Rattle.bash_declare.specs.Shown.{function_line, line_of, told}
use Rattle.bash_declare.specs.declared.argument.Argument.{Argument}
use Rattle.bash_declare.specs.declared.argument.Argument.TheVariants as argument
use Rattle.bash_declare.specs.declared.options.Options.{Options}
use Rattle.bash_declare.specs.declared.options.Unknown.{Unknown}
use Rattle.bash_declare.specs.declared.shown.Told.{Told}

abbrev pub changes : Text → (Store → Result Store VarErr) → Doing (Unit {0})
changes name make = λ at. changed name (make at.store) at

-- ---- names

-- the name of an argument; that of an assignment is the name before the "="
abbrev pub named_by : Argument → Text
named_by (argument.Said t) = t
named_by (argument.Assigns a) = a.name

abbrev pub is_no_name : Text → Bool
is_no_name t = not (is_name t)

-- a part, unless one of these is no name
abbrev pub unless_no_name : {A : Type 0} → Option Text → Doing A → Doing A
unless_no_name None p = p
unless_no_name (Some t) p = refuse (fault.BadName t)

-- ---- what is shown

abbrev pub variables_told : List Text → Doing Told
variables_told names = unless_no_name (find is_no_name names) (λ at. pure (told (line_of at.store) names) at)

abbrev pub functions_told : List Text → Doing Told
functions_told names = λ at. pure (told (function_line at.funcs) names) at

abbrev pub told_by : (functions : Bool) → List Text → Doing Told
told_by true names = functions_told names
told_by false names = variables_told names

abbrev pub tells : Told → Doing ℕ
tells it = prints it.text >> pure it.status

abbrev pub shows : Options → List Text → Doing ℕ
shows o names = told_by o.functions names >>= tells

-- ---- what is declared

-- the value, then the attributes
abbrev pub declares_name : DeclName → Options → Text → Doing (Unit {0})
declares_name d o t =
    changes t (λ s. named_in (place_of d o.global s) t s) >> changes t (marked_with (attributes_of d o) t)

abbrev pub declares_value : DeclName → Options → Assignment → Doing (Unit {0})
declares_value d o a =
    changes a.name (λ s. given_in (place_of d o.global s) a.name (subscript_of o.array a.given a.at) a.appends a.given s)
    >> changes a.name (marked_with (attributes_of d o) a.name)

abbrev pub declares_one : DeclName → Options → Argument → Doing (Unit {0})
declares_one d o (argument.Said t) = if is_name t then declares_name d o t else refuse (fault.BadName t)
declares_one d o (argument.Assigns a) = if is_name a.name then declares_value d o a else refuse (fault.BadName a.name)

-- one after another
abbrev pub declares_each : DeclName → Options → List Argument → Doing (Unit {0})
declares_each d o [] = pure tt
declares_each d o (a ∷ more) = declares_one d o a >> declares_each d o more

-- ---- the whole

-- what is to be shown wants a name
abbrev pub acts : DeclName → Options → List Argument → Doing ℕ
acts d o args =
    if o.functions || o.print
    then (if length args == 0 then refuse (fault.BadUse (name_of d)) else shows o (map named_by args))
    else (declares_each d o args >> pure 0)

abbrev pub acts_unless : DeclName → Result Options Unknown → List Argument → Doing ℕ
acts_unless d (Ok o) args = acts d o args
acts_unless d (Err unknown) args = refuse (fault.BadOption (name_of d) (unknown.sign ∷ unknown.letter ∷ []))

abbrev pub declares : DeclName → (options : List Text) → List Argument → Doing ℕ
declares d options args = acts_unless d (options_of d options) args
