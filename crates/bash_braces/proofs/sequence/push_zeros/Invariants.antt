use Rattle.std.proofs.Common.{◌≡◌, ◌++◌}
use Rattle.std.specs.Prelude.{replicate}
use Rattle.bash_braces.proofs.sequence.push_zeros.Given as goal

abbrev pub invariant-loop-left : goal.invariant-loop-left
invariant-loop-left l = l.text ++ replicate l.left 48 ≡ l.fn.text ++ replicate l.count 48

abbrev pub decreases-loop-left : goal.decreases-loop-left
decreases-loop-left l = l.left
