-- How an expression reads and assigns to variables (Bash Reference Manual, "Shell Arithmetic", "Arrays", "Bash
-- Variables").
use Rattle.std.specs.Prelude.{ℤ, [], unwrap_or, Option, Result, Ok, Err, if◌then◌else◌}
use Rattle.eb_bytes.specs.Text.{Text}
use Rattle.shell_vars.specs.declared.error.VarErr.{VarErr}
use Rattle.shell_vars.specs.Store.{Store}
use Rattle.shell_vars.specs.Calls as call
use Rattle.shell_vars.specs.Refused.{is_refused}
use Rattle.bash_arith.specs.declared.error.ArithErr.TheVariants as e
use Rattle.bash_arith.specs.Numbers.{number_text}
use Rattle.bash_arith.specs.Outcome.{State, Outcome, Ended, Faulted, Changed, paid}

-- the text of an element is evaluated, an absent one as the empty text, which costs a step
abbrev pub evaluated_text : (Text → State → Outcome) → Text → Result (Option Text) VarErr → State → Outcome
evaluated_text evaluate name (Ok t) s = paid s (evaluate (unwrap_or t []))
evaluated_text evaluate name (Err refused) s = Faulted (e.Var name refused) s

-- the value of a variable: the text of the element that the subscript means, evaluated
abbrev pub fetched : (Text → State → Outcome) → Text → Option ℤ → State → Outcome
fetched evaluate name at s =
    if is_refused name then Faulted (e.Unsupported name) s
    else evaluated_text evaluate name (call.element name at s.store) s

-- an assignment that was made has a value
abbrev pub after_assignment : Text → ℤ → Result Store VarErr → State → Outcome
after_assignment name v (Ok store) s = Changed s (Ended v (record s { store = store }))
after_assignment name v (Err refused) s = Faulted (e.Var name refused) s

-- a number assigned to a variable
abbrev pub stored : Text → Option ℤ → ℤ → State → Outcome
stored name at n s = after_assignment name n (call.assign name at (number_text n) s.store) s
