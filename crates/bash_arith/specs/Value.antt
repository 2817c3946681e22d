-- The value of an expression (Bash Reference Manual, "Shell Arithmetic").
use Rattle.std.specs.Prelude.{ℕ, zero, suc, ℤ, pos, not, List, [], ◌∷◌, Option, Some, None, Result, Ok, Err, if◌then◌else◌}
use Rattle.eb_bytes.specs.Text.{Text}
use Rattle.arith_syntax.specs.declared.operator.Operator.{Operator}
use Rattle.arith_syntax.specs.declared.operator.BinaryOperator.{BinaryOperator}
use Rattle.arith_syntax.specs.declared.operator.BinaryOperator.TheVariants.{Comma, Or, And, Both}
use Rattle.arith_syntax.specs.declared.operator.Increment.{Increment}
use Rattle.arith_syntax.specs.declared.operator.Timing.{Timing}
use Rattle.arith_syntax.specs.declared.operator.Timing.TheVariants.{Post, Pre}
use Rattle.arith_syntax.specs.declared.error.Refusal.{Refusal}
use Rattle.arith_syntax.specs.declared.error.Refusal.TheVariants as refusal
use Rattle.arith_syntax.specs.Expression.{Expression, Variable, Named, Element, Nothing, Constant, ValueOf, Opened, Signed, Incremented, Raised, Joined, Chosen, Assigned}
use Rattle.arith_syntax.specs.Reading.{expression}
use Rattle.bash_arith.specs.declared.error.ArithErr.{ArithErr}
use Rattle.bash_arith.specs.declared.error.ArithErr.TheVariants as e
use Rattle.bash_arith.specs.Numbers.{is_zero, truth, operated, signed, raised, incremented}
use Rattle.bash_arith.specs.Outcome.{State, Outcome, Ended, Faulted, and_then}
use Rattle.bash_arith.specs.Variables.{fetched, stored}

abbrev pub Evaluation : Type 0
Evaluation = State → Outcome

abbrev pub answered : Result ℤ ArithErr → State → Outcome
answered (Ok v) s = Ended v s
answered (Err fault) s = Faulted fault s

-- the right side of `&&` and `||` is evaluated where the left one does not decide
abbrev pub joined : BinaryOperator → ℤ → Evaluation → State → Outcome
joined Comma l right s = right s
joined Or l right s = if is_zero l then and_then (right s) (λ r u. Ended (truth (not (is_zero r))) u) else Ended (pos 1) s
joined And l right s = if is_zero l then Ended (pos 0) s else and_then (right s) (λ r u. Ended (truth (not (is_zero r))) u)
joined (Both o) l right s = and_then (right s) (λ r u. answered (operated o l r) u)

-- of the two last parts of `?:` one is evaluated
abbrev pub chosen : ℤ → Evaluation → Evaluation → State → Outcome
chosen c a b s = if is_zero c then b s else a s

-- the number before the increment, or the one after it
abbrev pub increment_value : Timing → ℤ → ℤ → ℤ
increment_value Post before after = before
increment_value Pre before after = after

-- `evaluate` evaluates a variable's text
module _ (evaluate : Text → Evaluation) where
  abbrev pub increment : Timing → Increment → Text → Option ℤ → Evaluation
  increment w d name at s =
      and_then (fetched evaluate name at s) (λ n u. and_then (stored name at (incremented d n) u) (λ m v. Ended (increment_value w n m) v))

  -- `x = y`, and `x op= y`, in which x is read before y is evaluated
  abbrev pub assign : Option Operator → Text → Option ℤ → Evaluation → Evaluation
  assign None name at right s = and_then (right s) (λ r u. stored name at r u)
  assign (Some o) name at right s =
      and_then (fetched evaluate name at s) (λ l u. and_then (right u) (λ r v. and_then (answered (operated o l r) v) (λ n w. stored name at n w)))

-- ---- nesting

-- how the text of a variable is evaluated where it stands, and after it for each nesting that may be opened round it
abbrev pub Nestings : Type 0
Nestings = List (Text → Evaluation)

-- where no nesting may be opened any more, no variable is evaluated
abbrev pub evaluate : Nestings → Text → Evaluation
evaluate [] t s = Faulted e.Nesting s
evaluate (l ∷ ls) t s = l t s

-- one nesting deeper
abbrev pub inside : Nestings → Nestings
inside [] = []
inside (l ∷ ls) = ls

-- what is done with a variable, once its subscript is evaluated
abbrev pub Use : Type 0
Use = Text → Option ℤ → Evaluation

-- the value of an expression
unfoldable mutual
  pub used : Nestings → Variable → Use → Evaluation
  used nestings (Named x) act s = act x None s
  used nestings (Element x e) act s = and_then (valued nestings e s) (λ at u. act x (Some at) u)

  pub valued : Nestings → Expression → Evaluation
  valued nestings Nothing s = Ended (pos 0) s
  valued nestings (Constant n) s = Ended n s
  valued nestings (ValueOf v) s = used nestings v (fetched (evaluate nestings)) s
  valued nestings (Opened e) s = valued (inside nestings) e s
  valued nestings (Signed sign e) s = and_then (valued nestings e s) (λ n u. Ended (signed sign n) u)
  valued nestings (Incremented w d v) s = used nestings v (increment (evaluate nestings) w d) s
  valued nestings (Raised base e) s =
      and_then (valued nestings base s) (λ b u. and_then (valued nestings e u) (λ n v. answered (raised b n) v))
  valued nestings (Joined j left right) s =
      and_then (valued nestings left s) (λ l u. joined j l (valued nestings right) u)
  valued nestings (Chosen c a b) s =
      and_then (valued nestings c s) (λ n u. chosen n (valued nestings a) (valued nestings b) u)
  valued nestings (Assigned by v e) s = used nestings v (λ x at. assign (evaluate nestings) by x at (valued nestings e)) s

abbrev pub fault_of : Refusal → ArithErr
fault_of refusal.Syntax = e.Syntax
fault_of refusal.Nesting = e.Nesting

-- an expression is read whole before it is evaluated
abbrev pub read_value : Nestings → Result Expression Refusal → Evaluation
read_value nestings (Ok e) s = valued nestings e s
read_value nestings (Err refusal) s = Faulted (fault_of refusal) s

-- so many nestings may be opened, of which the evaluation of a variable is one
unfoldable pub nestings_of : ℕ → Nestings
nestings_of zero = []
nestings_of (suc n) = (λ t s. read_value (nestings_of n) (expression n t) s) ∷ nestings_of n

-- the value of a text where so many nestings may be opened
unfoldable pub text_value : ℕ → Text → Evaluation
text_value n t s = read_value (nestings_of n) (expression n t) s

-- the value of a text: at most 64 nestings are open at once
unfoldable pub arithmetic : Text → Evaluation
arithmetic t s = text_value 64 t s
