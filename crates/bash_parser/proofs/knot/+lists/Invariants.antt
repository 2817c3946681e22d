use Rattle.std.proofs.Common.{◌*◌, ◌+◌}
use Rattle.bash_parser.proofs.knot.+lists.Given as goal

abbrev pub decreases-items : goal.decreases-items
decreases-items l = 2 * l.c.now.room

abbrev pub decreases-items-inner_items : goal.decreases-items-inner_items
decreases-items-inner_items l = 2 * l.c.now.room + 1

abbrev pub decreases-items-inner_body : goal.decreases-items-inner_body
decreases-items-inner_body l = 2 * l.c.now.room + 1

abbrev pub decreases-body : goal.decreases-body
decreases-body l = 2 * l.c.now.room

abbrev pub decreases-body-inner_items : goal.decreases-body-inner_items
decreases-body-inner_items l = 2 * l.c.now.room + 1

abbrev pub decreases-body-inner_body : goal.decreases-body-inner_body
decreases-body-inner_body l = 2 * l.c.now.room + 1
