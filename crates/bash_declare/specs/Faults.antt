-- Faults as they are told.
use Rattle.std.specs.Prelude.{◌≡◌}
use Rattle.shell_state.specs.declared.fault.Fault.{Fault}
use Rattle.shell_state.specs.declared.stop.Stop.{Stop}
use Rattle.shell_state.specs.declared.stop.Stop.TheVariants as stop

-- the call is stopped by this fault, or it is out of memory
abbrev pub IsFault : Stop → Fault → Type 0
IsFault (stop.Fault why) fault = why ≡ fault
IsFault stop.Failed fault = ⊥
IsFault stop.Memory fault = Unit {0}
