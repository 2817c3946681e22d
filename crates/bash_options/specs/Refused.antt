-- Faults of a builtin's words.
use Rattle.std.specs.Prelude.{◌≡◌}
use Rattle.shell_state.specs.declared.fault.Fault.{Fault}
use Rattle.shell_state.specs.declared.stop.Stop.{Stop}
use Rattle.shell_state.specs.declared.stop.Stop.TheVariants as stop

-- it is this fault, or out of memory
abbrev pub IsFault : Stop → Fault → Type 0
IsFault (stop.Fault why) f = why ≡ f
IsFault stop.Failed f = ⊥
IsFault stop.Memory f = Unit {0}
