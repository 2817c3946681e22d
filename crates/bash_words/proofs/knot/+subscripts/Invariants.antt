use Rattle.std.proofs.Common.{◌*◌, ◌+◌}
use Rattle.bash_words.proofs.knot.+subscripts.Given as goal

abbrev pub decreases-subscript_over : goal.decreases-subscript_over
decreases-subscript_over g l = 2 * l.c.now.room

abbrev pub decreases-inner : goal.decreases-inner
decreases-inner g l = 2 * l.c.now.room + 1
