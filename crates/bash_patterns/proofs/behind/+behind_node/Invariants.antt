use Rattle.std.proofs.Common.{◌+◌, ◌*◌}
use Rattle.bash_patterns.proofs.Sizes.{node_size}
use Rattle.bash_patterns.proofs.behind.+behind_node.Given as goal

abbrev pub decreases-behind_node : goal.decreases-behind_node
decreases-behind_node l = 2 * node_size l.node.now

abbrev pub decreases-behind_both : goal.decreases-behind_both
decreases-behind_both l = 2 * (node_size l.near.now + node_size l.far.now) + 1
