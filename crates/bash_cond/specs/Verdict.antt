-- What a test that only looks answers.
use Rattle.std.specs.Prelude.{◌≡◌, Bool, Result, Ok, Err}
use Rattle.shell_state.specs.Outcome.{Doing, pure, refuse}
use Rattle.shell_state.specs.declared.fault.Fault.{Fault}
use Rattle.shell_state.specs.declared.stop.Stop.{Stop}
use Rattle.shell_state.specs.declared.stop.Stop.TheVariants as stop

-- true, false, or the fault that ends the run
abbrev pub Verdict : Type 0
Verdict = Result Bool Fault

-- a part of a run that only gives a verdict
abbrev pub told : Verdict → Doing Bool
told (Ok b) = pure b
told (Err fault) = refuse fault

-- an answer is the verdict, or there is no room for it
abbrev pub Gives : Result Bool Stop → Verdict → Type 0
Gives (Ok b) verdict = verdict ≡ Ok b
Gives (Err (stop.Fault fault)) verdict = verdict ≡ Err fault
Gives (Err stop.Failed) verdict = ⊥
Gives (Err stop.Memory) verdict = Unit {0}
