use Rattle.std.proofs.Common.{◌*◌, ◌+◌}
use Rattle.bash_words.proofs.knot.+pieces.Given as goal

abbrev pub decreases-piece_over : goal.decreases-piece_over
decreases-piece_over g l = 2 * l.c.now.room

abbrev pub decreases-inner : goal.decreases-inner
decreases-inner g l = 2 * l.c.now.room + 1
