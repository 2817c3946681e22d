use Rattle.expand_parts.proofs.Taken.{group_taken}
use Rattle.expand_parts.proofs.next.next_group.Goals as goal

pub returns-in-Some : goal.returns-in-Some
returns-in-Some c sub g at s =
    group_taken c.group_part.result c.after.result sub c.args.scene.now.room c.args.level.now g at c.args.parts.now c.in-Some.found.now c.in-Some.field-0-1.now
    c.in-Some.ensures.some c.after.ensures (c.group_part.ensures sub at s)
