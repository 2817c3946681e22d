use Rattle.std.proofs.Common.{◌<◌, sym, ◌∙◌, ap, arith}
use Rattle.eapi_tables.specs.Key.{key_name, key_place}
use Rattle.eapi_tables.proofs.Keys.{place-below, get_or-place}
use Rattle.eapi_tables.proofs.key.Key.read.Goals as goal

pub returns-clause-each : goal.returns-clause-each
returns-clause-each c key e =
    let below : key_place key < c.loop-key.key-index = omega (arith, place-below key) in
    absurd (c.loop-key.invariant (key_place key) below (ap key_name (get_or-place key) ∙ sym e))
