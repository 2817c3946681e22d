-- What is open in a state, and parts of a run that close what they open (own).
use Rattle.std.specs.Prelude.{◌≡◌, ℕ, List, length}
use Rattle.eb_bytes.specs.Text.{Text}
use Rattle.shell_state.specs.Outcome.{Doing, Outcome, Ended, Faulted}
use Rattle.shell_state.specs.State.{State}
use Rattle.shell_state.specs.declared.io.Target.{Target}
use Rattle.shell_state.specs.declared.opened.Opened.{Opened}
use Rattle.shell_vars.specs.Store.{Kind, kinds}

pub record Open : Type 0 where
  -- what opened each frame of the variables
  pub frames : List Kind
  -- calls, scripts, subshells, compound commands and redirections
  pub parts : List Opened
  -- the loops that can be left
  pub loops : ℕ
  -- what is read, and where outputs go
  pub input : Text
  pub out : Target
  pub err : Target
  -- how many outputs are captured
  pub captures : ℕ

abbrev pub open_in : State → Open
open_in at = record {
  frames = kinds at.store;
  parts = at.opened;
  loops = at.loops;
  input = at.io.input;
  out = at.io.out;
  err = at.io.err;
  captures = length at.io.captures;
}

abbrev pub SameOpen : (before after : State) → Type 0
SameOpen before after = open_in after ≡ open_in before

-- in the state in which a part ends, the same is open as before it; a fault ends the whole run, and leaves no state
abbrev pub EndsClosed : {A : Type 0} → State → Outcome A → Type 0
EndsClosed before (Ended a after) = SameOpen before after
EndsClosed before (Faulted fault left asked) = Unit {0}

-- a part closes what it opens, and nothing else
abbrev pub Closes : {A : Type 0} → Doing A → Type 0
Closes p = (at : State) → EndsClosed at (p at)
