-- The operators of an expression (Bash Reference Manual, "Shell Arithmetic").
use Rattle.std.specs.Prelude.{ℕ, nat_eq, List, [], ◌∷◌, length, drop, Option, Some, None, if◌then◌else◌, codes}
use Rattle.std.specs.List.{starts_with}
use Rattle.eb_bytes.specs.Text.{Text}
use Rattle.arith_syntax.specs.declared.operator.Operator.{Operator}
use Rattle.arith_syntax.specs.declared.operator.Operator.TheVariants.{BitOr, BitXor, BitAnd, Equal, NotEqual, Less, LessOrEqual, Greater, GreaterOrEqual, ShiftLeft, ShiftRight, Add, Subtract, Multiply, Divide, Remainder}
use Rattle.arith_syntax.specs.declared.operator.BinaryOperator.{BinaryOperator}
use Rattle.arith_syntax.specs.declared.operator.BinaryOperator.TheVariants.{Comma, Or, And, Both}
use Rattle.arith_syntax.specs.declared.operator.Symbol.{Symbol}
use Rattle.arith_syntax.specs.declared.operator.Symbol.TheVariants as symbol
use Rattle.arith_syntax.specs.declared.operator.Sign.{Sign}
use Rattle.arith_syntax.specs.declared.operator.Sign.TheVariants as sign
use Rattle.arith_syntax.specs.declared.operator.Increment.{Increment}
use Rattle.arith_syntax.specs.declared.operator.Increment.TheVariants.{Up, Down}
use Rattle.arith_syntax.specs.Names.{after_blanks, begins_name}

-- the precedence of a binary operator that groups from the left: 1 is the tightest
abbrev pub operator_precedence : Operator → ℕ
operator_precedence Multiply = 1
operator_precedence Divide = 1
operator_precedence Remainder = 1
operator_precedence Add = 2
operator_precedence Subtract = 2
operator_precedence ShiftLeft = 3
operator_precedence ShiftRight = 3
operator_precedence Less = 4
operator_precedence LessOrEqual = 4
operator_precedence Greater = 4
operator_precedence GreaterOrEqual = 4
operator_precedence Equal = 5
operator_precedence NotEqual = 5
operator_precedence BitAnd = 6
operator_precedence BitXor = 7
operator_precedence BitOr = 8

abbrev pub precedence : BinaryOperator → ℕ
precedence (Both o) = operator_precedence o
precedence And = 9
precedence Or = 10
precedence Comma = 11

-- what an operator is written as; a longer one stands before each that it begins with
abbrev pub both : Operator → Symbol
both o = symbol.Binary (Both o)

abbrev pub assigning : Operator → Symbol
assigning o = symbol.Assign (Some o)

abbrev pub symbols : List (Text × Symbol)
symbols =
    (codes "<<=", assigning ShiftLeft) ∷ (codes ">>=", assigning ShiftRight)
    ∷ (codes "**", symbol.Power) ∷ (codes "*=", assigning Multiply) ∷ (codes "/=", assigning Divide)
    ∷ (codes "%=", assigning Remainder) ∷ (codes "+=", assigning Add) ∷ (codes "-=", assigning Subtract)
    ∷ (codes "&=", assigning BitAnd) ∷ (codes "^=", assigning BitXor) ∷ (codes "|=", assigning BitOr)
    ∷ (codes "||", symbol.Binary Or) ∷ (codes "&&", symbol.Binary And) ∷ (codes "<<", both ShiftLeft)
    ∷ (codes ">>", both ShiftRight) ∷ (codes "==", both Equal) ∷ (codes "!=", both NotEqual)
    ∷ (codes "<=", both LessOrEqual) ∷ (codes ">=", both GreaterOrEqual)
    ∷ (codes "*", both Multiply) ∷ (codes "/", both Divide) ∷ (codes "%", both Remainder)
    ∷ (codes "+", both Add) ∷ (codes "-", both Subtract) ∷ (codes "<", both Less) ∷ (codes ">", both Greater)
    ∷ (codes "&", both BitAnd) ∷ (codes "^", both BitXor) ∷ (codes "|", both BitOr)
    ∷ (codes "=", symbol.Assign None) ∷ (codes "?", symbol.Question) ∷ (codes ":", symbol.Colon)
    ∷ (codes ",", symbol.Binary Comma) ∷ []

abbrev pub signs : List (Text × Sign)
signs = (codes "!", sign.Not) ∷ (codes "~", sign.Complement) ∷ (codes "+", sign.Plus) ∷ (codes "-", sign.Minus) ∷ []

abbrev pub increments : List (Text × Increment)
increments = (codes "++", Up) ∷ (codes "--", Down) ∷ []

-- the first of these that the text begins with, and what follows it
abbrev pub first_of : {A : Type 0} → List (Text × A) → Text → Option (A × Text)
first_of [] t = None
first_of (w ∷ ws) t = if starts_with nat_eq t w.0 then Some (w.1, drop (length w.0) t) else first_of ws t

-- the `++` or `--` that follows a variable
unfoldable pub post_increment : Text → Option (Increment × Text)
post_increment t = first_of increments (after_blanks t)

abbrev pub before_name : Option (Increment × Text) → Option (Increment × Text)
before_name None = None
before_name (Some s) = if begins_name (after_blanks s.1) then Some (s.0, after_blanks s.1) else None

-- the `++` or `--` before a variable: where no name follows, it is two signs
unfoldable pub pre_increment : Text → Option (Increment × Text)
pre_increment t = before_name (first_of increments (after_blanks t))

abbrev pub unless_increment : Option (Increment × Text) → Option (Symbol × Text) → Option (Symbol × Text)
unless_increment None found = found
unless_increment (Some s) found = None

-- the operator that follows an operand; a `++` or `--` before a variable is none
unfoldable pub symbol_at : Text → Option (Symbol × Text)
symbol_at t = unless_increment (pre_increment t) (first_of symbols (after_blanks t))
