use Rattle.std.proofs.Common.{◌*◌, ◌+◌}
use Rattle.bash_redirs.proofs.regexes.+fn-regex-inner+regex.Given as goal

abbrev pub decreases-regex : goal.decreases-regex
decreases-regex g l = 2 * l.c.now.room

abbrev pub decreases-inner : goal.decreases-inner
decreases-inner g l = 2 * l.c.now.room + 1
