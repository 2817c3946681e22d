use Rattle.std.proofs.Common.{◌≡◌, length}
use Rattle.version_funcs.specs.Order.{without_last_zeros}
use Rattle.version_funcs.proofs.compare.without_last_zeros.Given as goal

abbrev pub invariant-loop-left : goal.invariant-loop-left
invariant-loop-left l = without_last_zeros l.left ≡ without_last_zeros l.text

abbrev pub decreases-loop-left : goal.decreases-loop-left
decreases-loop-left l = length l.left
