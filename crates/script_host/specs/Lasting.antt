-- The commands of a host over scripts give no steps back, and lose no name that was asked.
use Rattle.std.proofs.Common.{◌≡◌, Bool, List, [], ◌∷◌, Option, None, Some, refl, subst, sym, append-nil, arith}
use Rattle.eb_bytes.specs.Text.{Text}
use Rattle.eb_grammar.specs.Parsed.{ParsedText}
use Rattle.shell_state.specs.State.{State}
use Rattle.shell_state.specs.Host.{Begins, Lasts, Later}
use Rattle.shell_host.specs.NoHost.{Last}
use Rattle.script_host.specs.Host.{commands_of, handed_out}
use Rattle.script_host.specs.Scripts.{found}
use Rattle.script_host.specs.declared.host.ScriptHost.{ScriptHost}

same : (at : State) → Later at at.left at.host.asked
same at = record { less = omega arith; more = []; kept = sym (append-nil at.host.asked) }

of_found : (name : Text) (at : State) (p : Option ParsedText) → Lasts at (handed_out name at p)
of_found name at None = tt
of_found name at (Some p) = (record { less = omega arith; more = name ∷ []; kept = refl }, λ q. same q)

pub commands_last : (host : ScriptHost) (b : Begins) → Some (commands_of host.scripts) ≡ Some b
    → (plain : Bool) (name : Text) (args : List Text) (at : State) → Lasts at (b plain name args at)
commands_last host b e = subst Last e (λ plain name args at. of_found name at (found name host.scripts))
