-- A host without commands.
use Rattle.std.specs.Prelude.{◌≡◌, ℕ, zero, suc, Bool, List, [], ◌∷◌, Option, None, Some}
use Rattle.std.proofs.Common.{subst}
use Rattle.eb_bytes.specs.Text.{Text}
use Rattle.shell_state.specs.State.{Context, State}
use Rattle.shell_state.specs.Host.{Begins, Lasts, NotMine}
use Rattle.shell_host.specs.Hosts.{Saved}
use Rattle.shell_host.specs.declared.no_host.NoHost.{NoHost}

abbrev pub no_commands : Begins
no_commands plain name args at = NotMine

abbrev pub no_context : Context
no_context = record { eclasses = []; direct = []; totals = []; waiting = []; reads = []; asked = [] }

-- what the ends of so many subshells bring back
abbrev pub times : ℕ → List Saved
times zero = []
times (suc n) = record { context = no_context; scripts = 0 } ∷ times n

abbrev pub saved_of : NoHost → List Saved
saved_of host = times host.subshells

-- a host's commands, where they are known, give no steps back and lose no name that was asked
abbrev pub Last : Option Begins → Type 0
Last None = Unit {0}
Last (Some b) = (plain : Bool) (name : Text) (args : List Text) (at : State) → Lasts at (b plain name args at)

pub no_commands_last : (host : NoHost) (b : Begins) → Some no_commands ≡ Some b
    → (plain : Bool) (name : Text) (args : List Text) (at : State) → Lasts at (b plain name args at)
no_commands_last host b e = subst Last e (λ plain name args at. tt)
