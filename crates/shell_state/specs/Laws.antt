-- What holds of spending, opening and closing, whatever part of a run they stand in.
use Rattle.std.specs.Prelude.{◌≡◌, ℕ, ◌+◌, ◌-◌, ◌<◌, ◌≤◌, false, true, ◌∷◌}
use Rattle.shell_state.specs.State.{State}
use Rattle.shell_state.specs.Outcome.{Doing, Ended, Faulted, ◌>>=◌, ◌>>◌, pure, left_of}
use Rattle.shell_state.specs.Spending.{spend}
use Rattle.shell_state.specs.Opening.{is_too_deep, within}
use Rattle.shell_state.specs.declared.fault.Fault.TheVariants as fault
use Rattle.shell_state.specs.declared.opened.Opened.{Opened}

-- it does not matter which two of three parts are put together first
abbrev pub IsAssociative : (A B C : Type 0) → Type 0
IsAssociative A B C =
    (p : Doing A) (f : A → Doing B) (g : B → Doing C) (at : State)
    → ((p >>= f) >>= g) at ≡ (p >>= (λ a. f a >>= g)) at

-- a part after a value is the part with that value
abbrev pub BeginsWithValue : (A B : Type 0) → Type 0
BeginsWithValue A B = (a : A) (f : A → Doing B) (at : State) → (pure a >>= f) at ≡ f a at

-- a part whose value is handed on is that part
abbrev pub EndsWithValue : (A : Type 0) → Type 0
EndsWithValue A = (p : Doing A) (at : State) → (p >>= pure) at ≡ p at

-- to spend some steps and then more is to spend them all together
abbrev pub SpendingAddsUp : Type 0
SpendingAddsUp = (m n : ℕ) (at : State) → (spend m >> spend n) at ≡ spend (m + n) at

-- nothing is given back
abbrev pub SpendingNeverRises : Type 0
SpendingNeverRises = (n : ℕ) (at : State) → left_of (spend n at) ≤ at.left

-- where so many are left, just so many fewer are left then, and nothing else changes
abbrev pub EnoughIsEnough : Type 0
EnoughIsEnough = (n : ℕ) (at : State) → n ≤ at.left → spend n at ≡ Ended tt (record at { left = at.left - n })

-- where fewer are left, the run ends, and none is left
abbrev pub LessIsSpent : Type 0
LessIsSpent = (n : ℕ) (at : State) → at.left < n → spend n at ≡ Faulted fault.StepsSpent 0 at.host.asked

-- a part runs with one more open, and at its end just that is closed
abbrev pub WithinCloses : (A : Type 0) → Type 0
WithinCloses A =
    (o : Opened) (p : Doing A) (at after : State) (a : A) → is_too_deep o at.opened ≡ false
    → p (record at { opened = o ∷ at.opened }) ≡ Ended a after
    → within o p at ≡ Ended a (record after { opened = at.opened })

-- where too much is open, the part does not begin
abbrev pub WithinIsRefused : (A : Type 0) → Type 0
WithinIsRefused A =
    (o : Opened) (p : Doing A) (at : State) → is_too_deep o at.opened ≡ true
    → within o p at ≡ Faulted fault.DepthLimit at.left at.host.asked

-- whatever the part leaves open, after it is open what was open before it
abbrev pub WithinBringsBack : (A : Type 0) → Type 0
WithinBringsBack A =
    (o : Opened) (p : Doing A) (at after : State) (a : A)
    → within o p at ≡ Ended a after → after.opened ≡ at.opened
