-- The operators of conditions (Bash Reference Manual, "Bash Conditional Expressions").
use Rattle.std.specs.Prelude.{ℕ, ℤ, Bool, not, ◌==◌, [], ◌∷◌, codes, int_lt, Result, Ok, Err, if◌then◌else◌}
use Rattle.std.specs.Cmp.Lexicographic.{slice_cmp}
use Rattle.std.specs.Ordering.{int_eq, is_lt, nat_cmp}
use Rattle.eb_bytes.specs.Text.{Text, has_bytes}
use Rattle.eb_syntax.specs.declared.parts.BinOp.{BinOp}
use Rattle.eb_syntax.specs.declared.parts.BinOp.TheVariants as op
use Rattle.shell_state.specs.declared.fault.Fault.{Fault}
use Rattle.shell_state.specs.declared.fault.Fault.TheVariants as fault
use Rattle.bash_cond.specs.declared.operator.FileRelation.{FileRelation}
use Rattle.bash_cond.specs.declared.operator.FileRelation.TheVariants as file
use Rattle.bash_cond.specs.declared.operator.Question.{Question}
use Rattle.bash_cond.specs.declared.operator.Question.TheVariants.{Same, Different, Before, After, Numbers, Files}
use Rattle.bash_cond.specs.declared.operator.Relation.{Relation}
use Rattle.bash_cond.specs.declared.operator.Relation.TheVariants as number

-- ---- one operand

-- `-z` asks whether a text is empty, `-n` whether it is not; any other letter but that of `-v`, which takes a parameter,
-- asks about a file or about the shell, and is refused
abbrev pub text_test : (letter : ℕ) → Text → Result Bool Fault
text_test letter t =
    if letter == 122 then Ok (not (has_bytes t))
    else (if letter == 110 then Ok (has_bytes t)
    else Err (fault.FileTest (45 ∷ letter ∷ [])))

-- ---- two operands

-- what each operator asks
abbrev pub asks : BinOp → Question
asks op.DoubleEqual = Same
asks op.Equal = Same
asks op.NotEqual = Different
asks op.Before = Before
asks op.After = After
asks op.NumberEqual = Numbers number.Equal
asks op.NumberNotEqual = Numbers number.NotEqual
asks op.NumberLess = Numbers number.Less
asks op.NumberAtMost = Numbers number.AtMost
asks op.NumberGreater = Numbers number.Greater
asks op.NumberAtLeast = Numbers number.AtLeast
asks op.NewerFile = Files file.Newer
asks op.OlderFile = Files file.Older
asks op.SameFile = Files file.Same

-- `<`: the order of texts by bytes
abbrev pub is_before : Text → Text → Bool
is_before t u = is_lt (slice_cmp nat_cmp t u)

-- whether two numbers stand so to each other
abbrev pub stand : Relation → ℤ → ℤ → Bool
stand number.Equal m n = int_eq m n
stand number.NotEqual m n = not (int_eq m n)
stand number.Less m n = int_lt m n
stand number.AtMost m n = not (int_lt n m)
stand number.Greater m n = int_lt n m
stand number.AtLeast m n = not (int_lt m n)

-- the operator that asks this of two files
abbrev pub file_operator : FileRelation → Text
file_operator file.Newer = codes "-nt"
file_operator file.Older = codes "-ot"
file_operator file.Same = codes "-ef"
