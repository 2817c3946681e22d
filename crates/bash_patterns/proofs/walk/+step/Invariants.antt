use Rattle.std.proofs.Common.{◌+◌, ◌*◌}
use Rattle.bash_patterns.proofs.Sizes.{node_size}
use Rattle.bash_patterns.proofs.walk.+step.Given as goal

abbrev pub decreases-step : goal.decreases-step
decreases-step l = 2 * node_size l.node.now

abbrev pub decreases-step_both : goal.decreases-step_both
decreases-step_both l = 2 * (node_size l.near.now + node_size l.far.now) + 1

abbrev pub decreases-step_either : goal.decreases-step_either
decreases-step_either l = 2 * (node_size l.first.now + node_size l.second.now) + 1

abbrev pub decreases-step_optional : goal.decreases-step_optional
decreases-step_optional l = 2 * node_size l.inner.now + 1

abbrev pub decreases-step_repeated : goal.decreases-step_repeated
decreases-step_repeated l = 2 * node_size l.inner.now + 1

abbrev pub decreases-step_once_or_more : goal.decreases-step_once_or_more
decreases-step_once_or_more l = 2 * node_size l.inner.now + 1
