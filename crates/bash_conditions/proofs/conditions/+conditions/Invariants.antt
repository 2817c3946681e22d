use Rattle.std.proofs.Common.{◌*◌, ◌+◌}
use Rattle.bash_conditions.proofs.conditions.+conditions.Given as goal

abbrev pub decreases-negatable : goal.decreases-negatable
decreases-negatable g l = 4 * l.c.now.room

abbrev pub decreases-negatable-inner : goal.decreases-negatable-inner
decreases-negatable-inner g l = 4 * l.c.now.room + 3

abbrev pub decreases-negatable-negated : goal.decreases-negatable-negated
decreases-negatable-negated g l = 4 * l.c.now.room + 1

abbrev pub decreases-condition : goal.decreases-condition
decreases-condition g l = 4 * l.c.now.room + 2

abbrev pub decreases-condition-one : goal.decreases-condition-one
decreases-condition-one g l = 4 * l.c.now.room + 1
