use Rattle.std.proofs.Common.{◌*◌, ◌+◌}
use Rattle.bash_redirs.proofs.delimiters.+fn-unquoted_piece-inner+unquoted_piece.Given as goal

abbrev pub decreases-unquoted_piece : goal.decreases-unquoted_piece
decreases-unquoted_piece g l = 2 * l.c.now.room

abbrev pub decreases-inner : goal.decreases-inner
decreases-inner g l = 2 * l.c.now.room + 1
