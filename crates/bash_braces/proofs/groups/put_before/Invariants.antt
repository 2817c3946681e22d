use Rattle.std.proofs.Common.{◌≡◌, ◌++◌, length, map}
use Rattle.bash_braces.specs.Groups.{as_piece}
use Rattle.bash_braces.proofs.groups.put_before.Given as goal

abbrev pub invariant-loop-part : goal.invariant-loop-part
invariant-loop-part l = map as_piece l.parts ++ l.all ≡ map as_piece l.fn.parts ++ l.fn.after

abbrev pub decreases-loop-part : goal.decreases-loop-part
decreases-loop-part l = length l.parts
