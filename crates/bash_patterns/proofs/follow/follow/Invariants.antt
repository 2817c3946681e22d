use Rattle.std.proofs.Common.{◌-◌, drop, length}
use Rattle.bash_patterns.specs.Facing.{facing, facing_form, holds}
use Rattle.bash_patterns.specs.Form.{form_of}
use Rattle.bash_patterns.specs.Kept.{starts}
use Rattle.bash_patterns.specs.Left.{left_form}
use Rattle.bash_patterns.proofs.Followed.{IsFollowed}
use Rattle.bash_patterns.proofs.follow.follow.Given as goal

abbrev pub invariant-loop-count : goal.invariant-loop-count
invariant-loop-count l =
    IsFollowed (starts (facing_form l.way (form_of l.node)) (holds l.fn.goal)) (drop (length l.text - l.count) (facing l.way l.text)) (left_form l.way l.left) l.values.items
