use Rattle.std.proofs.Common.{length}
use Rattle.bash_patterns.specs.declared.way.Way.{Way}
use Rattle.bash_patterns.specs.Left.{IsSame, any_form, both_form}
use Rattle.bash_patterns.proofs.combine.thin.Given as goal

abbrev pub invariant-loop-part : goal.invariant-loop-part
invariant-loop-part l =
    (w : Way) → IsSame (both_form w l.kept.items l.parts.items) (any_form w l.fn.parts.items)

abbrev pub decreases-loop-part : goal.decreases-loop-part
decreases-loop-part l = length l.parts.items
