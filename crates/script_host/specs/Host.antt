-- What a host over scripts does.
use Rattle.std.specs.Prelude.{ℕ, zero, suc, List, [], ◌∷◌, ◌++◌, length, map, Option, None, Some}
use Rattle.eb_bytes.specs.Text.{Text}
use Rattle.eb_grammar.specs.Parsed.{ParsedText}
use Rattle.shell_state.specs.State.{Context, State}
use Rattle.shell_state.specs.Host.{Begins, Begun, Finished, Sourced, NotMine}
use Rattle.shell_host.specs.Hosts.{Saved}
use Rattle.script_host.specs.Scripts.{found}
use Rattle.script_host.specs.declared.scripts.Script.{Script}

-- the command that ran a script ends as that did, and prints nothing more
abbrev pub ends : State → Begun
ends at = Finished at.status [] at

-- a script that is handed out counts as asked for, by its name
abbrev pub asking : Text → State → State
asking name at = record at { host = record at.host { asked = at.host.asked ++ name ∷ [] } }

abbrev pub handed_out : Text → State → Option ParsedText → Begun
handed_out name at None = NotMine
handed_out name at (Some p) = Sourced p.script (length p.text) (asking name at) ends

-- each script is a command by its name, whatever arguments it has
abbrev pub commands_of : List Script → Begins
commands_of scripts plain name args at = handed_out name at (found name scripts)

-- a host keeps the names asked alone
abbrev pub asked_only : List Text → Context
asked_only names = record { eclasses = []; direct = []; totals = []; waiting = []; reads = []; asked = names }

-- so many open scripts
abbrev pub all_end : ℕ → List (State → Begun)
all_end zero = []
all_end (suc n) = ends ∷ all_end n

-- what the ends of subshells bring back that began while so many scripts were open
abbrev pub saved_with : List ℕ → List Saved
saved_with counts = map (λ n. record { context = asked_only []; scripts = n }) counts
