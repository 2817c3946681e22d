use Rattle.std.proofs.Common.{◌≡◌, ◌∷◌, ◌++◌, [], ap, ◌∙◌}
use Rattle.std.specs.Map.Iter.{deref_pair}
use Rattle.std.proofs.lemmas.Map.Iter.{rest_more}
use Rattle.eb_bytes.specs.Text.{Text}
use Rattle.bash_params.proofs.Taken.{taken_more}
use Rattle.bash_params.proofs.slices.texts_from.Goals as goal

pub loop-at-preserved-then-left-gt0 : goal.loop-at-preserved-then-left-gt0
loop-at-preserved-then-left-gt0 c =
    let first : c.loop-at.at-iterator ≡ (c.in-Some.at.now, c.in-Some.text.now) ∷ c.next.new.self = rest_more deref_pair c.loop-at.at-iterator c.next.new.self c.next.result (c.in-Some.at, c.in-Some.text) c.in-Some.is c.next.ensures.steps in
    let copied : c.in_ok-copy.field-0 ≡ c.in-Some.text.now = c.in_ok-copy.ensures in
    taken_more c.args.start c.loop-at.left c.in-Some.at.now c.in-Some.text.now c.loop-at.at-iterator c.next.new.self c.loop-at.texts.items c.push.new.self.items _ first c.if-at-start.true c.if-left-gt0.true (c.in_ok-push.ensures.items ∙ ap (λ (t : Text). c.loop-at.texts.items ++ t ∷ []) copied) c.loop-at.invariant
