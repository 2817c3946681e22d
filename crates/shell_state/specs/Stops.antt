-- What ends a call of the shell.
use Rattle.std.specs.Prelude.{◌≡◌, ◌≢◌}
use Rattle.eb_bytes.specs.Text.{Text}
use Rattle.shell_vars.specs.declared.error.VarErr.{VarErr}
use Rattle.shell_vars.specs.declared.error.VarErr.TheVariants as refusal
use Rattle.shell_state.specs.declared.stop.Stop.{Stop}
use Rattle.shell_state.specs.declared.stop.Stop.TheVariants as stop
use Rattle.shell_state.specs.Faults.{variable_fault}

-- it is the fault that a refusal to change the variable of this name is, or out of memory
abbrev pub IsRefusal : Stop → Text → VarErr → Type 0
IsRefusal (stop.Fault fault) name refused = (refused ≢ refusal.Memory) × (fault ≡ variable_fault name refused)
IsRefusal stop.Failed name refused = ⊥
IsRefusal stop.Memory name refused = Unit {0}
