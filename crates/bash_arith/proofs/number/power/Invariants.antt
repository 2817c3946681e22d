use Rattle.std.proofs.Common.{◌≡◌, ◌*◌, ◌%◌, ◌^◌, ◌<◌}
use Rattle.bash_arith.proofs.number.power.Given as goal

abbrev pub invariant-loop-left : goal.invariant-loop-left
invariant-loop-left l = ((l.power * l.square ^ l.left) % 2 ^ 64 ≡ (l.base ^ l.exponent) % 2 ^ 64) × (l.power < 2 ^ 64)

abbrev pub decreases-loop-left : goal.decreases-loop-left
decreases-loop-left l = l.left
