-- `printf` (Bash Reference Manual, "Bash Builtin Commands").
use Rattle.std.specs.Prelude.{ℕ, ℤ, Option, Some, None, List, Result, Ok, Err, codes}
use Rattle.eb_bytes.specs.Text.{Text}
use Rattle.shell_state.specs.Outcome.{Doing, ◌<$>◌, ◌>>=◌, ◌>>◌, pure, refuse}
use Rattle.shell_state.specs.Spending.{spend, text_cost}
use Rattle.shell_state.specs.declared.fault.Fault.{Fault}
use Rattle.bash_cond.specs.Arithmetic.{evaluates}
use Rattle.bash_assign.specs.Assignments.{assigns}
use Rattle.printf_format.specs.Formats.{formatted}
use Rattle.bash_printf.specs.Printing.{judged, told}
use Rattle.bash_printf.specs.Use.{Formats, Use, Wrong, use_of}

-- what a format and words make, or the fault
abbrev pub made : Text → List Text → Result Text Fault
made format ws = judged (codes "printf") (formatted format ws).ending (formatted format ws).text

-- the value of a subscript, if there is one
abbrev pub index_of : Option Text → Doing (Option ℤ)
index_of None = pure None
index_of (Some t) = Some <$> evaluates t

-- gives a text to a variable or an element, once it is paid
abbrev pub given : Text → Option ℤ → Result Text Fault → Doing ℕ
given name at (Ok t) = spend (text_cost t) >> (assigns name at t >> pure 0)
given name at (Err why) = refuse why

-- its subscript is evaluated first
abbrev pub gives : Text → Option Text → Result Text Fault → Doing ℕ
gives name subscript r = index_of subscript >>= (λ at. given name at r)

abbrev pub used : Use → Doing ℕ
used (Formats None format ws) = told (made format ws)
used (Formats (Some to) format ws) = gives to.name to.subscript (made format ws)
used (Wrong why) = refuse why

unfoldable pub printf : List Text → Doing ℕ
printf ws = used (use_of ws)
