use Rattle.std.proofs.Common.{◌+◌, length}
use Rattle.bash_patterns.specs.declared.way.Way.{Way}
use Rattle.bash_patterns.specs.Form.{Choice}
use Rattle.bash_patterns.specs.Left.{IsSame, any_form, both_form}
use Rattle.bash_patterns.proofs.combine.merge.Given as goal

abbrev pub invariant-loop-part : goal.invariant-loop-part
invariant-loop-part l =
    (w : Way) → IsSame (Choice (any_form w l.parts.items) (both_form w l.firsts.items l.seconds.items)) (both_form w l.fn.firsts.items l.fn.seconds.items)

abbrev pub decreases-loop-part : goal.decreases-loop-part
decreases-loop-part l = length l.firsts.items + length l.seconds.items
