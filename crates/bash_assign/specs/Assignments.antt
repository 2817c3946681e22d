-- A value given to a variable, or a text to an element, as a part of a run (Bash Reference Manual, "Shell Parameters", "Arrays").
use Rattle.std.specs.Prelude.{ℤ, Option, Result, Ok, Err}
use Rattle.eb_bytes.specs.Text.{Text}
use Rattle.shell_vars.specs.Calls.{assign, set}
use Rattle.shell_vars.specs.Store.{Store}
use Rattle.shell_vars.specs.declared.error.VarErr.{VarErr}
use Rattle.shell_vars.specs.declared.value.Value.{Value}
use Rattle.shell_state.specs.Faults.{variable_fault}
use Rattle.shell_state.specs.Outcome.{Doing, Ended, Faulted}

-- goes on with the variables as they are then, or is at fault
abbrev pub changed : Text → Result Store VarErr → Doing (Unit {0})
changed name (Ok store) at = Ended tt (record at { store = store })
changed name (Err refused) at = Faulted (variable_fault name refused) at.left at.host.asked

-- the variable takes the value
abbrev pub sets : Text → Value → Doing (Unit {0})
sets name v at = changed name (set name v at.store) at

-- the variable takes the text, or its element of this index does
abbrev pub assigns : Text → Option ℤ → Text → Doing (Unit {0})
assigns name index t at = changed name (assign name index t at.store) at
