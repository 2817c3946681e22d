use Rattle.std.proofs.Common.{◌≡◌, ◌+◌, ◌-◌, ◌∙◌, ap, arith, drop, length}
use Rattle.std.proofs.lemmas.List.{drop_all}
use Rattle.bash_patterns.specs.Facing.{facing, facing_form, holds}
use Rattle.bash_patterns.specs.Form.{form_of}
use Rattle.bash_patterns.specs.Kept.{starts}
use Rattle.bash_patterns.proofs.Faced.{facing_length}
use Rattle.bash_patterns.proofs.Followed.{follow_begun, follow_next}
use Rattle.bash_patterns.proofs.follow.follow.Goals as goal

pub loop-count-init : goal.loop-count-init
loop-count-init c =
    let long : length (facing c.args.way c.args.text.now) ≡ length c.args.text.now = facing_length c.args.way c.args.text.now in
    follow_begun (starts (facing_form c.args.way (form_of c.args.node.now)) (holds c.args.goal)) _ _ _ _ _ (drop_all (length c.args.text.now - 0) (facing c.args.way c.args.text.now) (omega arith)) (c.in_ok-left.ensures c.args.way) c.new-values.ensures.items (c.may_end.ensures c.args.way) c.in_ok-push.ensures.items

pub loop-count-preserved : goal.loop-count-preserved
loop-count-preserved c =
    let left : length c.args.text.now - (c.loop-count.count + 1) ≡ length c.args.text.now - c.loop-count.count - 1 = omega arith in
    follow_next (starts (facing_form c.args.way (form_of c.args.node.now)) (holds c.args.goal)) _ _ _ _ _ _ _ _ (ap (λ n. drop n (facing c.args.way c.args.text.now)) left ∙ c.byte.ensures) c.loop-count.invariant c.in_ok-left-2.ensures (c.may_end-in-loop-count.ensures c.args.way) c.in_ok-push-2.ensures.items
