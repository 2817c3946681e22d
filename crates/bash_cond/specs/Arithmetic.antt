-- Arithmetic as a part of a run (Bash Reference Manual, "Shell Arithmetic").
use Rattle.std.specs.Prelude.{◌≡◌, ◌≢◌, ℤ, min}
use Rattle.eb_bytes.specs.Text.{Text}
use Rattle.bash_arith.specs.Outcome as arith
use Rattle.bash_arith.specs.Value.{arithmetic}
use Rattle.bash_arith.specs.declared.error.ArithErr.{ArithErr}
use Rattle.bash_arith.specs.declared.error.ArithErr.TheVariants as e
use Rattle.shell_state.specs.Faults.{variable_fault}
use Rattle.shell_state.specs.Outcome.{Doing, Ended, Faulted}
use Rattle.shell_state.specs.State.{State}
use Rattle.shell_state.specs.declared.fault.Fault.{Fault}
use Rattle.shell_state.specs.declared.fault.Fault.TheVariants as fault
use Rattle.shell_state.specs.declared.stop.Stop.{Stop}
use Rattle.shell_state.specs.declared.stop.Stop.TheVariants as stop

-- the fault of a script whose text, which was evaluated first, has no value; an evaluation is never at fault by want of
-- memory, so the last line is never met
abbrev pub arithmetic_fault : Text → ArithErr → Fault
arithmetic_fault t e.Syntax = fault.ArithSyntax t
arithmetic_fault t e.DivZero = fault.ArithDivZero t
arithmetic_fault t e.NegativeExponent = fault.ArithNegative t
arithmetic_fault t e.Nesting = fault.ArithNesting t
arithmetic_fault t (e.Unsupported name) = fault.Unsupported name
arithmetic_fault t (e.Var name refused) = variable_fault name refused
arithmetic_fault t e.Spent = fault.StepsSpent
arithmetic_fault t e.Memory = fault.StepsSpent

-- it is that fault, or out of memory
abbrev pub IsArithmeticFault : Stop → Text → ArithErr → Type 0
IsArithmeticFault (stop.Fault why) t error = (error ≢ e.Memory) × (why ≡ arithmetic_fault t error)
IsArithmeticFault stop.Failed t error = ⊥
IsArithmeticFault stop.Memory t error = Unit {0}

-- a run in the state that an evaluation leaves, which gives no steps back
abbrev pub at_end : arith.State → State → State
at_end s at = record at { store = s.store; left = min s.left at.left }

-- a part of a run that ends as an evaluation of this text does
abbrev pub ends_as : Text → arith.Outcome → Doing ℤ
ends_as t (arith.Ended n s) at = Ended n (at_end s at)
ends_as t (arith.Faulted error s) at = Faulted (arithmetic_fault t error) (at_end s at).left at.host.asked
ends_as t (arith.Changed s o) at = ends_as t o at

-- the variables of a run, and the steps that are left
abbrev pub variables_of : State → arith.State
variables_of at = record { store = at.store; left = at.left }

-- the value of a text; its assignments are made in the run's variables, and its steps are the run's
unfoldable pub evaluates : Text → Doing ℤ
evaluates t at = ends_as t (arith.last (arithmetic t (variables_of at))) at
