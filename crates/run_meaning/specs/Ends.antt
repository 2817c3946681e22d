-- How commands end, and what is done after that.
use Rattle.std.specs.Prelude.{ℕ, zero, suc, Bool, ◌==◌, if◌then◌else◌}
use Rattle.shell_state.specs.State.{State}
use Rattle.shell_state.specs.Outcome.{Doing, Outcome, ◌>>◌, pure, change}

-- the commands after them come next, or a jump is on its way: it leaves so many loops, or goes on with the loop that is
-- so far out, both counted from the innermost as 1, or ends the call or the script ("Bourne Shell Builtins")
pub data End : Type 0 where
  Goes : End
  Breaks : ℕ → End
  Continues : ℕ → End
  Returns : End

abbrev pub Run : Type 0
Run = Outcome End

-- the status of the command before is this one ("Exit Status")
abbrev pub with_status : ℕ → State → State
with_status n at = record at { status = n }

abbrev pub status : ℕ → Doing End
status n = change (with_status n) >> pure Goes

-- whether the command before succeeded
abbrev pub succeeded : State → Bool
succeeded at = at.status == 0

-- the status of a truth value
abbrev pub truth_status : Bool → ℕ
truth_status b = if b then 0 else 1

-- the status of a number: an expression is true where it is not 0 ("Conditional Constructs")
abbrev pub inverse : ℕ → ℕ
inverse n = if n == 0 then 1 else 0

-- what comes next, unless a jump passes it
abbrev pub going : Doing End → End → Doing End
going next Goes = next
going next (Breaks n) = pure (Breaks n)
going next (Continues n) = pure (Continues n)
going next Returns = pure Returns

-- a loop that is left: the loops further out are left too, where more are to be left
abbrev pub left_loop : ℕ → End
left_loop zero = Goes
left_loop (suc zero) = Goes
left_loop (suc (suc n)) = Breaks (suc n)

-- the next turn, unless a jump leaves the loop
abbrev pub turned : Doing End → End → Doing End
turned next Goes = next
turned next (Breaks n) = pure (left_loop n)
turned next (Continues zero) = next
turned next (Continues (suc zero)) = next
turned next (Continues (suc (suc n))) = pure (Continues (suc n))
turned next Returns = pure Returns
