use Rattle.expand_parts.proofs.Taken.{arith_taken}
use Rattle.expand_parts.proofs.next.next_arith.Goals as goal

pub returns-in-Some : goal.returns-in-Some
returns-in-Some c sub g at s =
    arith_taken c.arith.result c.after.result sub c.args.scene.now.room c.args.level.now g at c.args.parts.now c.in-Some.found.now c.in-Some.field-0-1.now
    c.in-Some.ensures.some c.after.ensures (c.arith.ensures sub at s)
