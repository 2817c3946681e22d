use Rattle.std.proofs.Common.{◌*◌, ◌+◌}
use Rattle.bash_words.proofs.knot.+dollars.Given as goal

abbrev pub decreases-dollar : goal.decreases-dollar
decreases-dollar g l = 2 * l.c.now.room

abbrev pub decreases-inner : goal.decreases-inner
decreases-inner g l = 2 * l.c.now.room + 1
