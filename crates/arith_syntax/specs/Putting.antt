-- What is left where the instructions for what was read are put after others.
use Rattle.std.specs.Prelude.{◌≡◌, ℕ, zero, suc, ◌+◌, ◌-◌, ◌==◌, Bool, true, false, [], ◌∷◌, ◌++◌, length, Option, Some, None, Result, Ok, Err, if◌then◌else◌}
use Rattle.eb_bytes.specs.Text.{Text}
use Rattle.arith_syntax.specs.declared.instruction.Instruction.TheVariants as i
use Rattle.arith_syntax.specs.declared.instruction.VariableRef.{VariableRef}
use Rattle.arith_syntax.specs.declared.operator.BinaryOperator.{BinaryOperator}
use Rattle.arith_syntax.specs.declared.operator.BinaryOperator.TheVariants.{Comma, Or, And, Both}
use Rattle.arith_syntax.specs.declared.operator.Operator.{Operator}
use Rattle.arith_syntax.specs.declared.operator.Symbol.{Symbol}
use Rattle.arith_syntax.specs.declared.operator.Symbol.TheVariants as symbol
use Rattle.arith_syntax.specs.declared.reader.ExpressionRead.{ExpressionRead}
use Rattle.arith_syntax.specs.declared.reader.VariableRead.{VariableRead}
use Rattle.arith_syntax.specs.declared.error.ReadErr.{ReadErr}
use Rattle.arith_syntax.specs.declared.error.ReadErr.TheVariants.{Refused}
use Rattle.arith_syntax.specs.declared.error.Refusal.{Refusal}
use Rattle.arith_syntax.specs.Code.{Code, code_of, ref_of, subscript_code}
use Rattle.arith_syntax.specs.Expression.{Expression, Variable, ValueOf}
use Rattle.arith_syntax.specs.Reading.{Reading, Rules, assignment, binary, opened, reading, too_deep}

abbrev pub is_value_of : Expression → Bool
is_value_of (ValueOf v) = true
is_value_of other = false

-- an expression was read, and its instructions were put after others
pub record Puts (n : ℕ) (r : Reading Expression) (old new : Code) (is_variable : Bool) (rest : Text) : Type 0 where
  pub expression : Expression
  pub reads : r ≡ Ok (expression, rest)
  pub puts : new ≡ old ++ code_of n expression
  pub kind : is_variable ≡ is_value_of expression

-- the same, or the text is refused so
abbrev pub Reads : ℕ → Reading Expression → Code → Result ExpressionRead ReadErr → Code → Type 0
Reads n r old (Ok x) new = Puts n r old new x.is_variable x.rest.now
Reads n r old (Err e) new = (refusal : Refusal) → e ≡ Refused refusal → r ≡ Err refusal

-- a variable was read, and the instructions for its subscript were put after others
pub record PutsVariable (n : ℕ) (r : Reading Variable) (old new : Code) (ref : VariableRef) (rest : Text) : Type 0 where
  pub variable : Variable
  pub reads : r ≡ Ok (variable, rest)
  pub puts : new ≡ old ++ subscript_code n variable
  pub names : ref ≡ ref_of n variable

abbrev pub ReadsVariable : ℕ → Reading Variable → Code → Result VariableRead ReadErr → Code → Type 0
ReadsVariable n r old (Ok x) new = PutsVariable n r old new x.variable x.rest.now
ReadsVariable n r old (Err e) new = (refusal : Refusal) → e ≡ Refused refusal → r ≡ Err refusal

-- what an operator and its right side put after the left side
abbrev pub continued : BinaryOperator → Code → Code
continued Comma right = i.Discard ∷ right
continued Or right = i.OrElse (length right + 1) ∷ right ++ i.Truth ∷ []
continued And right = i.AndThen (length right + 1) ∷ right ++ i.Truth ∷ []
continued (Both o) right = right ++ i.Operate o ∷ []

-- the right side of an operator was read, and its instructions were put after those of the left one
pub record PutsRight (n : ℕ) (j : BinaryOperator) (r : Reading Expression) (old new : Code) (rest : Text) : Type 0 where
  pub right : Expression
  pub reads : r ≡ Ok (right, rest)
  pub puts : new ≡ old ++ continued j (code_of n right)

abbrev pub ReadsRight : ℕ → BinaryOperator → Reading Expression → Code → Result ExpressionRead ReadErr → Code → Type 0
ReadsRight n j r old (Ok x) new = PutsRight n j r old new x.rest.now × (x.is_variable ≡ false)
ReadsRight n j r old (Err e) new = (refusal : Refusal) → e ≡ Refused refusal → r ≡ Err refusal

-- what the parts of `?:` after the first put
abbrev pub chosen : Code → Code → Code
chosen a b = i.Unless (length a + 1) ∷ a ++ i.Skip (length b) ∷ b

-- what an assignment puts before its right side, and after it
abbrev pub loading : Option Operator → VariableRef → Code
loading None p = []
loading (Some o) p = i.Load p ∷ []

abbrev pub storing : Option Operator → VariableRef → Code
storing None p = i.Store p ∷ []
storing (Some o) p = i.Operate o ∷ i.Store p ∷ []

-- the rules one nesting deeper, where so many may be opened
unfoldable pub inner : ℕ → Rules
inner zero = too_deep
inner (suc n) = λ r t. opened (reading n r t)

-- what the operators of a level stand between
unfoldable pub side : Rules → ℕ → Text → Reading Expression
side inside level = if level == 11 then assignment inside else binary inside (level - 1)

-- ---- what stands after an operator, if it is this one

abbrev pub past_power : Symbol → Text → Option Text
past_power symbol.Power t = Some t
past_power other t = None

abbrev pub past_question : Symbol → Text → Option Text
past_question symbol.Question t = Some t
past_question other t = None

abbrev pub past_colon : Symbol → Text → Option Text
past_colon symbol.Colon t = Some t
past_colon other t = None

abbrev pub past_assign : Symbol → Text → Option (Option Operator × Text)
past_assign (symbol.Assign by) t = Some (by, t)
past_assign other t = None

abbrev pub past : {A : Type 0} → (Symbol → Text → Option A) → Option (Symbol × Text) → Option A
past f None = None
past f (Some s) = f s.0 s.1

-- what stands after this byte, if the text begins with it
abbrev pub past_byte : ℕ → Text → Option Text
past_byte c [] = None
past_byte c (b ∷ t) = if b == c then Some t else None
