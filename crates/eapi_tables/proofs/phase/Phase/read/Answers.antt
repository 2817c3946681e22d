use Rattle.std.proofs.Common.{◌<◌, sym, ◌∙◌, ap, arith}
use Rattle.eapi_tables.specs.Phase.{phase_name}
use Rattle.eapi_tables.proofs.Phases.{place, place-below, get_or-place}
use Rattle.eapi_tables.proofs.phase.Phase.read.Goals as goal

pub returns-clause-each : goal.returns-clause-each
returns-clause-each c phase e =
    let below : place phase < c.loop-phase.phase-index = omega (arith, place-below phase) in
    absurd (c.loop-phase.invariant (place phase) below (ap phase_name (get_or-place phase) ∙ sym e))
