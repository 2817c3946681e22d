-- Expressions as trees.
use Rattle.std.specs.Prelude.{ℤ, Option}
use Rattle.eb_bytes.specs.Text.{Text}
use Rattle.arith_syntax.specs.declared.operator.Operator.{Operator}
use Rattle.arith_syntax.specs.declared.operator.BinaryOperator.{BinaryOperator}
use Rattle.arith_syntax.specs.declared.operator.Sign.{Sign}
use Rattle.arith_syntax.specs.declared.operator.Increment.{Increment}
use Rattle.arith_syntax.specs.declared.operator.Timing.{Timing}

mutual
  -- a name, or a name with a subscript
  pub data Variable : Type 0 where
    Named : Text → Variable
    Element : Text → Expression → Variable

  -- what an expression is. `Opened` marks each part that is one nesting deeper than what stands round it: what is in
  -- parentheses or a subscript, what a prefix operator acts on, and the right sides of `**`, `?:` and assignments.
  pub data Expression : Type 0 where
    -- the empty expression
    Nothing : Expression
    Constant : ℤ → Expression
    -- the value of a variable
    ValueOf : Variable → Expression
    Opened : Expression → Expression
    Signed : Sign → Expression → Expression
    -- `++` or `--` of a variable
    Incremented : Timing → Increment → Variable → Expression
    -- `**`
    Raised : Expression → Expression → Expression
    Joined : BinaryOperator → Expression → Expression → Expression
    -- `?:`
    Chosen : Expression → Expression → Expression → Expression
    -- `=`, or an operator and `=`
    Assigned : Option Operator → Variable → Expression → Expression
