-- What an error of a slice is to a script.
use Rattle.std.specs.Prelude.{◌≡◌, ◌≢◌}
use Rattle.bash_params.specs.declared.error.ParamErr.{ParamErr}
use Rattle.bash_params.specs.declared.error.ParamErr.TheVariants as refusal
use Rattle.eb_bytes.specs.Text.{Text}
use Rattle.shell_state.specs.declared.fault.Fault.{Fault}
use Rattle.shell_state.specs.declared.fault.Fault.TheVariants as fault
use Rattle.shell_state.specs.declared.stop.Stop.{Stop}
use Rattle.shell_state.specs.declared.stop.Stop.TheVariants as stop

-- the fault of the parameter of this name; a definition never gives out of memory, so the last line is never met
abbrev pub cut_fault : Text → ParamErr → Fault
cut_fault name refusal.BadSubstitution = fault.BadSubstitution name
cut_fault name refusal.ValueSize = fault.ValueSize
cut_fault name refusal.Memory = fault.ValueSize

-- it is that fault, or out of memory
abbrev pub IsCut : Stop → Text → ParamErr → Type 0
IsCut (stop.Fault why) name e = (e ≢ refusal.Memory) × (why ≡ cut_fault name e)
IsCut stop.Failed name e = ⊥
IsCut stop.Memory name e = Unit {0}
