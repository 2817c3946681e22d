use Rattle.std.proofs.Common.{◌≡◌, [], length}
use Rattle.bash_braces.specs.Groups.{after_ends}
use Rattle.bash_braces.proofs.groups.Nest.finish.Given as goal

abbrev pub invariant-loop-level : goal.invariant-loop-level
invariant-loop-level l = after_ends l.all l.outer ≡ after_ends [] l.fn.self.outer

abbrev pub decreases-loop-level : goal.decreases-loop-level
decreases-loop-level l = length l.outer
