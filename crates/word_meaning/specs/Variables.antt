-- Changes of the variables as parts of a run (Bash Reference Manual, "Shell Parameters").
use Rattle.std.specs.Prelude.{Result}
use Rattle.bash_assign.specs.Assignments.{changed}
use Rattle.eb_bytes.specs.Text.{Text}
use Rattle.shell_state.specs.Outcome.{Doing}
use Rattle.shell_vars.specs.Store.{Store}
use Rattle.shell_vars.specs.declared.error.VarErr.{VarErr}

-- what a change makes of the variables as they are then, or the fault that the refusal to change the one of this name is
abbrev pub changes : Text → (Store → Result Store VarErr) → Doing (Unit {0})
changes name make = λ at. changed name (make at.store) at
