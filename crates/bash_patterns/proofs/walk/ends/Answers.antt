use Rattle.std.proofs.Common.{◌∙◌, ap, length, map, refl}
use Rattle.std.proofs.lemmas.List.{map_push}
use Rattle.bash_patterns.specs.declared.way.Goal.TheVariants.{Anywhere}
use Rattle.bash_patterns.specs.Facing.{facing, facing_form}
use Rattle.bash_patterns.specs.Form.{form_of}
use Rattle.bash_patterns.specs.Walk.{is_within, leaves}
use Rattle.bash_patterns.proofs.FacedTrees.{same_tree}
use Rattle.bash_patterns.proofs.Grown.{walk_begun, walk_next}
use Rattle.bash_patterns.proofs.Told.{told_within}
use Rattle.bash_patterns.proofs.walk.ends.Goals as goal

pub loop-count-init : goal.loop-count-init
unfolding facing facing_form
loop-count-init c = record {
  node = c.in_ok-first.ensures.node ∙ c.new-walk.ensures.node;
  way = c.in_ok-first.ensures.way ∙ c.new-walk.ensures.way;
  at = λ most. walk_begun (is_within most) (form_of c.args.node.now) _ Anywhere (leaves most) c.args.text.now (length c.args.text.now) _ _ _ _ _ _ _ (record { told = told_within most; plain = c.requires; ended = λ t. refl }) refl (same_tree _ _ _ _ c.new-walk.ensures.way c.new-walk.ensures.node) refl c.new-walk.ensures.kept (ap (map (is_within most)) c.new-ends.ensures.items) c.in_ok-first.ensures.end c.in_ok-first.ensures.kept refl (ap (map (is_within most)) c.in_ok-push.ensures.items ∙ map_push (is_within most) _ _);
}

pub loop-count-preserved : goal.loop-count-preserved
unfolding facing facing_form
loop-count-preserved c = record {
  node = c.in_ok-next.ensures.node ∙ c.loop-count.invariant.node;
  way = c.in_ok-next.ensures.way ∙ c.loop-count.invariant.way;
  at = λ most. walk_next (is_within most) (form_of c.args.node.now) _ Anywhere (leaves most) c.args.text.now _ (length c.args.text.now) c.loop-count.count _ _ _ _ _ _ _ (record { told = told_within most; plain = c.requires; ended = λ t. refl }) refl c.loop-count-test.true (same_tree _ _ _ _ c.loop-count.invariant.way c.loop-count.invariant.node) refl c.byte.ensures c.in_ok-next.ensures.end c.in_ok-next.ensures.kept refl (ap (map (is_within most)) c.in_ok-push-2.ensures.items ∙ map_push (is_within most) _ _) (c.loop-count.invariant.at most);
}
