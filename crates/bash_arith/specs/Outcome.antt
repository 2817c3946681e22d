-- What an evaluation acts on, how it goes on, and how it ends.
use Rattle.std.specs.Prelude.{◌≡◌, ◌≢◌, ◌⊎◌, ℕ, zero, suc, ◌-◌, ℤ, Result, Ok, Err}
pub use Rattle.eb_bytes.specs.Spending.{Spending, left}
use Rattle.eb_bytes.specs.Text.{Text}
use Rattle.shell_vars.specs.Store.{Store}
use Rattle.shell_vars.specs.Stores.{Stores}
use Rattle.shell_vars.specs.declared.error.VarErr.{VarErr}
use Rattle.shell_vars.specs.declared.error.VarErr.TheVariants as var
use Rattle.bash_arith.specs.declared.error.ArithErr.{ArithErr}
use Rattle.bash_arith.specs.declared.error.ArithErr.TheVariants as e

-- the variables, and how many steps are left
pub record State : Type 0 where
  pub store : Store
  pub left : ℕ

-- a number, or the first fault, and the state then; before that, each state that an assignment or a spent step changed
pub data Outcome : Type 0 where
  Ended : ℤ → State → Outcome
  Faulted : ArithErr → State → Outcome
  Changed : State → Outcome → Outcome

-- goes on with the number, unless there was a fault
abbrev pub and_then : Outcome → (ℤ → State → Outcome) → Outcome
and_then (Ended v s) f = f v s
and_then (Faulted fault s) f = Faulted fault s
and_then (Changed s o) f = Changed s (and_then o f)

-- how it ends
abbrev pub last : Outcome → Outcome
last (Ended v s) = Ended v s
last (Faulted fault s) = Faulted fault s
last (Changed s o) = last o

-- the steps that are left at the end
abbrev pub left_of : Outcome → ℕ
left_of (Ended v s) = s.left
left_of (Faulted fault s) = s.left
left_of (Changed s o) = left_of o

-- it has this state at some moment
abbrev pub Passes : Outcome → State → Type 0
Passes (Ended v u) s = u ≡ s
Passes (Faulted fault u) s = u ≡ s
Passes (Changed u o) s = (u ≡ s) ⊎ Passes o s

abbrev pub paid_from : ℕ → State → (State → Outcome) → Outcome
paid_from zero s f = Faulted e.Spent s
paid_from (suc n) s f = Changed s (f (record s { left = n }))

-- spends a step, and goes on if it was left
abbrev pub paid : State → (State → Outcome) → Outcome
paid s f = paid_from s.left s f

abbrev pub state : Stores → Spending → State
state vars budget = record { store = vars.present; left = left budget }

-- an answer is how that outcome ends, in the state then; out of memory comes in a state that it has at some moment. The
-- fault of a variable is never out of memory.
abbrev pub Tells : Result ℤ ArithErr → Outcome → State → Type 0
Tells (Ok v) outcome s = last outcome ≡ Ended v s
Tells (Err e.Memory) outcome s = Passes outcome s
Tells (Err (e.Var x refused)) outcome s = (refused ≢ var.Memory) × (last outcome ≡ Faulted (e.Var x refused) s)
Tells (Err fault) outcome s = last outcome ≡ Faulted fault s

-- the fault of a variable that could not be read or changed
abbrev pub IsVar : ArithErr → Text → VarErr → Type 0
IsVar (e.Var x refused) name given = (x ≡ name) × (refused ≡ given) × (refused ≢ var.Memory)
IsVar e.Memory name given = Unit {0}
IsVar fault name given = ⊥

-- a step was spent, or none was left
abbrev pub Pays : Result (Unit {0}) ArithErr → Spending → Spending → Type 0
Pays (Ok done) old new = left old ≡ suc (left new)
Pays (Err fault) old new = (fault ≡ e.Spent) × (left old ≡ 0) × (left new ≡ 0)
