-- The operators of `[[ .. ]]` with two operands, as parts of a run (Bash Reference Manual, "Bash Conditional Expressions").
use Rattle.std.specs.Prelude.{Bool, true, not, List}
use Rattle.eb_bytes.specs.Text.{Text}
use Rattle.eb_syntax.specs.declared.parts.BinOp.{BinOp}
use Rattle.shell_marks.specs.Marks.{unquoted}
use Rattle.shell_marks.specs.declared.marked.Mark.{Mark}
use Rattle.shell_state.specs.Outcome.{Doing, ◌<$>◌, pure, refuse}
use Rattle.shell_state.specs.declared.fault.Fault.TheVariants as fault
use Rattle.bash_cond.specs.Numbers.{numbers_stand}
use Rattle.bash_cond.specs.Operators.{asks, file_operator, is_before}
use Rattle.bash_cond.specs.Patterns.{matched}
use Rattle.bash_cond.specs.declared.operator.Question.{Question}
use Rattle.bash_cond.specs.declared.operator.Question.TheVariants.{Same, Different, Before, After, Numbers, Files}

-- the right side of `=`, `==` and `!=` is a pattern, in which extended groups are read whatever the options say
abbrev pub asked : Question → Text → List Mark → Doing Bool
asked Same t marks = matched true marks t
asked Different t marks = not <$> matched true marks t
asked Before t marks = pure (is_before t (unquoted marks))
asked After t marks = pure (is_before (unquoted marks) t)
asked (Numbers relation) t marks = numbers_stand relation t (unquoted marks)
asked (Files relation) t marks = refuse (fault.FileTest (file_operator relation))

-- an operator between a text and a text whose bytes are marked
abbrev pub binary : BinOp → Text → List Mark → Doing Bool
binary op t marks = asked (asks op) t marks
