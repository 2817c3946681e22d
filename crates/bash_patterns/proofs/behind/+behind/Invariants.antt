use Rattle.std.proofs.Common.{◌+◌, ◌*◌}
use Rattle.bash_patterns.proofs.Sizes.{left_size}
use Rattle.bash_patterns.proofs.behind.+behind.Given as goal

abbrev pub decreases-behind : goal.decreases-behind
decreases-behind l = 2 * left_size l.left.now

abbrev pub decreases-behind_rest : goal.decreases-behind_rest
decreases-behind_rest l = 2 * left_size l.first.now + 1
