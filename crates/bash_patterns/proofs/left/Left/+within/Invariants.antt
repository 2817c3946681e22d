use Rattle.std.proofs.Common.{◌+◌, ◌*◌}
use Rattle.bash_patterns.proofs.Sizes.{left_size}
use Rattle.bash_patterns.proofs.left.Left.+within.Given as goal

abbrev pub decreases-is_within : goal.decreases-is_within
decreases-is_within l = 2 * (left_size l.self.now + left_size l.other.now) + 1

abbrev pub decreases-is_part : goal.decreases-is_part
decreases-is_part l = 2 * (left_size l.self.now + left_size l.other.now)
