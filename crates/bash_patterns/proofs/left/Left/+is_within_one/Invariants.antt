use Rattle.std.proofs.Common.{length}
use Rattle.bash_patterns.proofs.left.Left.+is_within_one.Given as goal

abbrev pub decreases-is_within_one : goal.decreases-is_within_one
decreases-is_within_one l = length l.others.now
