-- What a command of the host does (own).
use Rattle.std.specs.Prelude.{◌≡◌, ℕ, ◌≤◌, Bool, List, ◌++◌}
use Rattle.eb_bytes.specs.Text.{Text}
use Rattle.eb_syntax.specs.declared.tree.Items.{Items}
use Rattle.shell_state.specs.State.{State}
use Rattle.shell_state.specs.declared.fault.Fault.{Fault}

pub data Begun : Type 0 where
  -- it ends with a status, prints a text, and leaves a state
  Finished : (status : ℕ) → (output : Text) → State → Begun
  -- it hands out a script of so many bytes, to be run in a state, and says what it does in the state at its end
  Sourced : (script : Items) → (bytes : ℕ) → State → (State → Begun) → Begun
  -- it is at fault, with the steps left and the names asked by then
  Refused : Fault → (left : ℕ) → (asked : List Text) → Begun
  -- the host has no command of this name
  NotMine : Begun

-- what a host does with a command: whether nothing is open and neither assignments nor redirections stand with it, its
-- name, its arguments, and the state
abbrev pub Begins : Type 0
Begins = (plain : Bool) → (name : Text) → (args : List Text) → State → Begun

-- so many steps left and these names asked may come after a state: steps never rise, and no name is lost
pub record Later (before : State) (left : ℕ) (asked : List Text) : Type 0 where
  pub less : left ≤ before.left
  pub more : List Text
  pub kept : asked ≡ before.host.asked ++ more

-- a command of the host gives no steps back and loses no name that was asked
abbrev pub Lasts : State → Begun → Type 0
Lasts before (Finished status output at) = Later before at.left at.host.asked
Lasts before (Sourced script bytes at next) = Later before at.left at.host.asked × ((p : State) → Lasts p (next p))
Lasts before (Refused fault left asked) = Later before left asked
Lasts before NotMine = Unit {0}
