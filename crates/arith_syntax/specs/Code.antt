-- The instructions that stand for an expression.
use Rattle.std.specs.Prelude.{ℕ, pos, ◌+◌, ◌-◌, true, false, List, [], ◌∷◌, ◌++◌, length, Option, Some, None, Result, Ok, Err}
use Rattle.eb_bytes.specs.Text.{Text}
use Rattle.arith_syntax.specs.declared.instruction.Instruction.{Instruction}
use Rattle.arith_syntax.specs.declared.instruction.Instruction.TheVariants as i
use Rattle.arith_syntax.specs.declared.instruction.VariableRef.{VariableRef}
use Rattle.arith_syntax.specs.declared.operator.BinaryOperator.{BinaryOperator}
use Rattle.arith_syntax.specs.declared.operator.BinaryOperator.TheVariants.{Comma, Or, And, Both}
use Rattle.arith_syntax.specs.declared.operator.Operator.{Operator}
use Rattle.arith_syntax.specs.declared.error.Refusal.{Refusal}
use Rattle.arith_syntax.specs.Reading.{unquoted}
use Rattle.arith_syntax.specs.Expression.{Expression, Variable, Named, Element, Nothing, Constant, ValueOf, Opened, Signed, Incremented, Raised, Joined, Chosen, Assigned}

abbrev pub Code : Type 0
Code = List Instruction

-- a variable where so many nestings may still be opened
abbrev pub ref_of : ℕ → Variable → VariableRef
ref_of n (Named x) = record { name = x; has_subscript = false; nesting_left = n }
ref_of n (Element x e) = record { name = x; has_subscript = true; nesting_left = n }

-- the instructions for two sides and the operator between them; `&&` and `||` leave the right one out where the left one
-- decides
abbrev pub joining : BinaryOperator → Code → Code → Code
joining Comma left right = left ++ i.Discard ∷ right
joining Or left right = left ++ i.OrElse (length right + 1) ∷ right ++ i.Truth ∷ []
joining And left right = left ++ i.AndThen (length right + 1) ∷ right ++ i.Truth ∷ []
joining (Both o) left right = left ++ right ++ i.Operate o ∷ []

-- of the two last parts of `?:` one is left out
abbrev pub choosing : Code → Code → Code → Code
choosing c a b = c ++ i.Unless (length a + 1) ∷ a ++ i.Skip (length b) ∷ b

-- the instructions for an assignment after those for the variable's subscript: an operator takes the variable's value
-- first
abbrev pub assigning : Option Operator → VariableRef → Code → Code
assigning None p right = right ++ i.Store p ∷ []
assigning (Some o) p right = i.Load p ∷ right ++ i.Operate o ∷ i.Store p ∷ []

unfoldable mutual
  -- the instructions for a variable's subscript, if it has one
  pub subscript_code : ℕ → Variable → Code
  subscript_code n (Named x) = []
  subscript_code n (Element x e) = code_of n e

  -- the instructions for an expression where so many nestings may still be opened
  pub code_of : ℕ → Expression → Code
  code_of n Nothing = i.Push (pos 0) ∷ []
  code_of n (Constant z) = i.Push z ∷ []
  code_of n (ValueOf v) = subscript_code n v ++ i.Fetch (ref_of n v) ∷ []
  code_of n (Opened e) = code_of (n - 1) e
  code_of n (Signed s e) = code_of n e ++ i.Sign s ∷ []
  code_of n (Incremented w d v) = subscript_code n v ++ i.Increment w d (ref_of n v) ∷ []
  code_of n (Raised base e) = code_of n base ++ code_of n e ++ i.Raise ∷ []
  code_of n (Joined j left right) = joining j (code_of n left) (code_of n right)
  code_of n (Chosen c a b) = choosing (code_of n c) (code_of n a) (code_of n b)
  code_of n (Assigned by v e) = subscript_code n v ++ assigning by (ref_of n v) (code_of n e)

abbrev pub coded : ℕ → Result Expression Refusal → Result Code Refusal
coded n (Ok e) = Ok (code_of n e)
coded n (Err refusal) = Err refusal

-- the instructions for a text without double quotes, where so many nestings may be opened, or the first refusal from the
-- left
unfoldable pub program : ℕ → Text → Result Code Refusal
program n t = coded n (unquoted n t)
