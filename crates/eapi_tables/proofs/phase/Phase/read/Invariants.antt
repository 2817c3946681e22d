-- No phase before this one has the text as its function's name.
use Rattle.std.proofs.Common.{◌≡◌, ℕ, ◌<◌, get_or}
use Rattle.eapi_tables.specs.Phase.{phase_name}
use Rattle.eapi_tables.specs.declared.phase.Phase.TheVariants.{Setup}
use Rattle.eapi_tables.proofs.phase.Phase.read.Given as goal

abbrev pub invariant-loop-phase : goal.invariant-loop-phase
invariant-loop-phase l = (k : ℕ) → k < l.phase-index → phase_name (get_or l.phase-items k Setup) ≡ l.text → ⊥
