-- What a builtin prints in one run.
use Rattle.std.specs.Prelude.{◌≡◌, ℕ, Result, Ok, Err, codes}
use Rattle.eb_bytes.specs.Text.{Text}
use Rattle.shell_state.specs.Outcome.{Doing, ◌>>◌, pure, refuse}
use Rattle.shell_state.specs.Output.{prints}
use Rattle.shell_state.specs.declared.fault.Fault.{Fault}
use Rattle.shell_state.specs.declared.fault.Fault.TheVariants as fault
use Rattle.shell_state.specs.declared.stop.Stop.{Stop}
use Rattle.shell_state.specs.declared.stop.Stop.TheVariants as stop
use Rattle.printf_format.specs.declared.escapes.Ending.{Ending}
use Rattle.printf_format.specs.declared.escapes.Ending.TheVariants as ending

-- a text, or the fault of the builtin of this name
abbrev pub judged : (command : Text) → Ending → Text → Result Text Fault
judged command ending.Through t = Ok t
judged command ending.Stopped t = Ok t
judged command ending.BadUse t = Err (fault.BadUse command)
judged command ending.Quoting t = Err (fault.Unsupported (codes "quoting"))

-- prints a text, with the status 0
abbrev pub told : Result Text Fault → Doing ℕ
told (Ok t) = prints t >> pure 0
told (Err why) = refuse why

-- the answer of a call says whether there is a fault, or there is no room for it
abbrev pub Judges : Result (Unit {0}) Stop → (command : Text) → Ending → Type 0
Judges (Ok done) command e = (t : Text) → judged command e t ≡ Ok t
Judges (Err (stop.Fault why)) command e = (t : Text) → judged command e t ≡ Err why
Judges (Err stop.Failed) command e = ⊥
Judges (Err stop.Memory) command e = Unit {0}

-- it is this fault, or out of memory
abbrev pub IsWrong : Stop → Fault → Type 0
IsWrong (stop.Fault why) f = why ≡ f
IsWrong stop.Failed f = ⊥
IsWrong stop.Memory f = Unit {0}
