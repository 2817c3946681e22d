use Rattle.std.proofs.Common.{◌*◌, ◌+◌}
use Rattle.bash_words.proofs.knot.+texts.Given as goal

abbrev pub decreases-arith_over : goal.decreases-arith_over
decreases-arith_over g l = 2 * l.c.now.room

abbrev pub decreases-inner : goal.decreases-inner
decreases-inner g l = 2 * l.c.now.room + 1
