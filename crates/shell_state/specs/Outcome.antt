-- How a part of a run ends, and how one part follows another (own).
use Rattle.std.specs.Prelude.{◌≡◌, ℕ, ◌≤◌, List, Result, Ok, Err}
use Rattle.eb_bytes.specs.Text.{Text}
use Rattle.shell_state.specs.State.{State}
use Rattle.shell_state.specs.declared.fault.Fault.{Fault}
use Rattle.shell_state.specs.declared.stop.Stop.{Stop}
use Rattle.shell_state.specs.declared.stop.Stop.TheVariants as stop

-- it ends with a value in a state, or a fault ends the whole run: with the steps left and the names asked by then
pub data Outcome (A : Type 0) : Type 0 where
  Ended : A → State → Outcome A
  Faulted : Fault → (left : ℕ) → (asked : List Text) → Outcome A

-- a part of a run: from the state in which it begins to how it ends
abbrev pub Doing : Type 0 → Type 0
Doing A = State → Outcome A

-- goes on with the value, in the state then; after a fault nothing is done
abbrev pub and_then : {A B : Type 0} → Outcome A → (A → Doing B) → Outcome B
and_then (Ended a at) f = f a at
and_then (Faulted fault left asked) f = Faulted fault left asked

-- one part after another, which takes the first one's value
infixl 10 ◌>>=◌
abbrev pub ◌>>=◌ : {A B : Type 0} → Doing A → (A → Doing B) → Doing B
p >>= f = λ at. and_then (p at) f

-- one part after another
infixl 10 ◌>>◌
abbrev pub ◌>>◌ : {A B : Type 0} → Doing A → Doing B → Doing B
p >> q = p >>= (λ _. q)

-- a value, and nothing is done
abbrev pub pure : {A : Type 0} → A → Doing A
pure a = λ at. Ended a at

-- a part, with what a function makes of its value
infixr 11 ◌<$>◌
abbrev pub ◌<$>◌ : {A B : Type 0} → (A → B) → Doing A → Doing B
f <$> p = p >>= (λ a. pure (f a))

-- ends the run by this fault
abbrev pub refuse : {A : Type 0} → Fault → Doing A
refuse fault = λ at. Faulted fault at.left at.host.asked

-- the state as it is
abbrev pub get : Doing State
get = λ at. Ended at at

-- with these steps left and these names asked
abbrev pub with_left_and_asked : ℕ → List Text → State → State
with_left_and_asked left asked at = record at { left = left; host = record at.host { asked = asked } }

-- changes the state; whatever the change says, the steps left and the names asked stay
abbrev pub change : (State → State) → Doing (Unit {0})
change f = λ at. Ended tt (with_left_and_asked at.left at.host.asked (f at))

-- the steps that are left at the end
abbrev pub left_of : {A : Type 0} → Outcome A → ℕ
left_of (Ended a at) = at.left
left_of (Faulted fault left asked) = left

-- the names that were asked by the end
abbrev pub asked_of : {A : Type 0} → Outcome A → List Text
asked_of (Ended a at) = at.host.asked
asked_of (Faulted fault left asked) = asked

-- an answer, in the state at that moment, is how the part ends: its value, or its fault. Where the call was stopped
-- otherwise, no more steps were spent than the part spends.
abbrev pub Tells : {A : Type 0} → Result A Stop → Outcome A → State → Type 0
Tells (Ok a) r at = r ≡ Ended a at
Tells (Err (stop.Fault fault)) r at = r ≡ Faulted fault at.left at.host.asked
Tells (Err stop.Failed) r at = left_of r ≤ at.left
Tells (Err stop.Memory) r at = left_of r ≤ at.left
