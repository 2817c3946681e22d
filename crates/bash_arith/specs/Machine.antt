-- What instructions make of a stack of numbers.
use Rattle.std.specs.Prelude.{◌≡◌, ◌≢◌, ℕ, zero, suc, ℤ, pos, not, min, List, [], ◌∷◌, Option, Some, None, Result, Ok, Err, if◌then◌else◌}
use Rattle.eb_bytes.specs.Text.{Text}
use Rattle.arith_syntax.specs.declared.instruction.Instruction.{Instruction}
use Rattle.arith_syntax.specs.declared.instruction.Instruction.TheVariants as i
use Rattle.arith_syntax.specs.declared.instruction.VariableRef.{VariableRef}
use Rattle.arith_syntax.specs.declared.error.ReadErr.{ReadErr}
use Rattle.arith_syntax.specs.declared.error.ReadErr.TheVariants as read
use Rattle.arith_syntax.specs.Code.{Code}
use Rattle.bash_arith.specs.Numbers.{is_zero, truth, operated, signed, raised}
use Rattle.bash_arith.specs.declared.error.ArithErr.{ArithErr}
use Rattle.bash_arith.specs.declared.error.ArithErr.TheVariants as e
use Rattle.bash_arith.specs.Outcome.{State, Outcome, Ended, Faulted, Passes, and_then, last}
use Rattle.shell_vars.specs.declared.error.VarErr.TheVariants as var
use Rattle.bash_arith.specs.Value.{answered, evaluate, fault_of, nestings_of, increment}
use Rattle.bash_arith.specs.Variables.{fetched, stored}

abbrev pub Stack : Type 0
Stack = List ℤ

-- the number on top, and 0 where there is none
abbrev pub top : Stack → ℤ
top [] = pos 0
top (n ∷ ns) = n

abbrev pub below : Stack → Stack
below [] = []
below (n ∷ ns) = ns

-- the subscript of a variable, which is on top
abbrev pub subscript : VariableRef → Stack → Option ℤ
subscript p stack = if p.has_subscript then Some (top stack) else None

-- the stack without it
abbrev pub without_subscript : VariableRef → Stack → Stack
without_subscript p stack = if p.has_subscript then below stack else stack

-- goes on after an instruction: how many of the next are left out, and the stack
abbrev pub Next : Type 0
Next = ℕ → Stack → State → Outcome

-- `n` is how many nestings may be opened where the instructions begin
module _ (n : ℕ) where
  -- the evaluation of the text of a variable that stands there
  abbrev pub text_of : VariableRef → Text → State → Outcome
  text_of p = evaluate (nestings_of (min p.nesting_left n))

  abbrev pub executed : Instruction → Stack → State → Next → Outcome
  executed (i.Push z) stack s next = next 0 (z ∷ stack) s
  executed (i.Fetch p) stack s next =
      and_then (fetched (text_of p) p.name (subscript p stack) s) (λ z u. next 0 (z ∷ without_subscript p stack) u)
  executed (i.Load p) stack s next =
      and_then (fetched (text_of p) p.name (subscript p stack) s) (λ z u. next 0 (z ∷ stack) u)
  executed (i.Store p) stack s next =
      and_then (stored p.name (subscript p (below stack)) (top stack) s) (λ z u. next 0 (z ∷ without_subscript p (below stack)) u)
  executed (i.Increment w d p) stack s next =
      and_then (increment (text_of p) w d p.name (subscript p stack) s) (λ z u. next 0 (z ∷ without_subscript p stack) u)
  executed (i.Sign sign) stack s next = next 0 (signed sign (top stack) ∷ below stack) s
  executed (i.Operate o) stack s next =
      and_then (answered (operated o (top (below stack)) (top stack)) s) (λ z u. next 0 (z ∷ below (below stack)) u)
  executed i.Raise stack s next =
      and_then (answered (raised (top (below stack)) (top stack)) s) (λ z u. next 0 (z ∷ below (below stack)) u)
  executed i.Discard stack s next = next 0 (below stack) s
  executed i.Truth stack s next = next 0 (truth (not (is_zero (top stack))) ∷ below stack) s
  executed (i.OrElse k) stack s next = if is_zero (top stack) then next 0 (below stack) s else next k (pos 1 ∷ below stack) s
  executed (i.AndThen k) stack s next = if is_zero (top stack) then next k (pos 0 ∷ below stack) s else next 0 (below stack) s
  executed (i.Unless k) stack s next = if is_zero (top stack) then next k (below stack) s else next 0 (below stack) s
  executed (i.Skip k) stack s next = next k stack s

  -- what instructions leave on top, once so many of them are left out
  unfoldable pub run : Code → Next
  run [] k stack s = Ended (top stack) s
  run (c ∷ code) (suc k) stack s = run code k stack s
  run (c ∷ code) zero stack s = executed c stack s (λ k more u. run code k more u)

-- what goes on has the state that it is given, at its first moment
abbrev pub Begins : Next → Type 0
Begins next = (k : ℕ) (stack : Stack) (s : State) → Passes (next k stack s) s

-- an outcome that goes on as another, after some changes
pub record GoesOn (o p : Outcome) : Type 0 where
  pub ends : last o ≡ last p
  pub passes : (s : State) → Passes p s → Passes o s

-- an instruction was executed: what goes on after it does so with this stack and state. After a fault nothing goes on;
-- out of memory comes in a state that all of it has at some moment.
abbrev pub Continues : Result ℕ ArithErr → (Next → Outcome) → Stack → State → Type 0
Continues (Ok k) done stack s = (next : Next) → GoesOn (done next) (next k stack s)
Continues (Err e.Memory) done stack s = (next : Next) → Begins next → Passes (done next) s
Continues (Err (e.Var x refused)) done stack s = (refused ≢ var.Memory) × ((next : Next) → last (done next) ≡ Faulted (e.Var x refused) s)
Continues (Err fault) done stack s = (next : Next) → last (done next) ≡ Faulted fault s

-- the same of an instruction that uses no variable, and so changes nothing on the way
abbrev pub Computes : Result ℕ ArithErr → (Next → Outcome) → Stack → State → Type 0
Computes (Ok k) done stack s = (next : Next) → done next ≡ next k stack s
Computes (Err e.Memory) done stack s = (next : Next) → Begins next → Passes (done next) s
Computes (Err (e.Var x refused)) done stack s = (refused ≢ var.Memory) × ((next : Next) → done next ≡ Faulted (e.Var x refused) s)
Computes (Err fault) done stack s = (next : Next) → done next ≡ Faulted fault s

-- the fault of a text that cannot be read
abbrev pub fault_of_error : ReadErr → ArithErr
fault_of_error (read.Refused refusal) = fault_of refusal
fault_of_error read.Memory = e.Memory
