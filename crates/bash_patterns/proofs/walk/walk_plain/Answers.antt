use Rattle.std.proofs.Common.{◌∙◌, length}
use Rattle.std.specs.Option.{is_some}
use Rattle.bash_patterns.specs.Facing.{facing, facing_form, holds}
use Rattle.bash_patterns.specs.Form.{form_of}
use Rattle.bash_patterns.proofs.Faced.{facing_length}
use Rattle.bash_patterns.proofs.FacedTrees.{same_tree}
use Rattle.bash_patterns.proofs.Grown.{plain_facing, walk_begun, walk_next}
use Rattle.bash_patterns.proofs.Told.{told_holds, told_some}
use Rattle.bash_patterns.proofs.walk.walk_plain.Goals as goal

pub loop-count-init : goal.loop-count-init
loop-count-init c = record {
  node = c.in_ok-first.ensures.node ∙ c.new-walk.ensures.node;
  way = c.in_ok-first.ensures.way ∙ c.new-walk.ensures.way;
  at = walk_begun (λ v. is_some v) (facing_form c.args.way (form_of c.args.node.now)) _ c.args.goal (holds c.args.goal) (facing c.args.way c.args.text.now) (length c.args.text.now) _ _ _ _ _ _ _ (record { told = told_some; plain = plain_facing c.args.way (form_of c.args.node.now) c.requires; ended = told_holds c.args.goal }) (facing_length c.args.way c.args.text.now) (same_tree _ _ _ _ c.new-walk.ensures.way c.new-walk.ensures.node) c.end.ensures c.new-walk.ensures.kept c.new-values.ensures.items c.in_ok-first.ensures.end c.in_ok-first.ensures.kept c.is_some.ensures c.in_ok-push.ensures.items;
}

pub loop-count-preserved : goal.loop-count-preserved
loop-count-preserved c = record {
  node = c.in_ok-next.ensures.node ∙ c.loop-count.invariant.node;
  way = c.in_ok-next.ensures.way ∙ c.loop-count.invariant.way;
  at = walk_next (λ v. is_some v) (facing_form c.args.way (form_of c.args.node.now)) _ c.args.goal (holds c.args.goal) (facing c.args.way c.args.text.now) _ (length c.args.text.now) c.loop-count.count _ _ _ _ _ _ _ (record { told = told_some; plain = plain_facing c.args.way (form_of c.args.node.now) c.requires; ended = told_holds c.args.goal }) (facing_length c.args.way c.args.text.now) c.loop-count-test.true (same_tree _ _ _ _ c.loop-count.invariant.way c.loop-count.invariant.node) c.end-in-loop-count.ensures c.byte.ensures c.in_ok-next.ensures.end c.in_ok-next.ensures.kept c.is_some-in-loop-count.ensures c.in_ok-push-2.ensures.items c.loop-count.invariant.at;
}
