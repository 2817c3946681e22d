use Rattle.std.proofs.Common.{sym, ap, ◌∙◌}
use Rattle.bash_braces.specs.Sequences.{begins_with_dots}
use Rattle.bash_braces.proofs.Cutting.{cut_more, rest_whole}
use Rattle.bash_braces.proofs.sequence.cut.Goals as goal

pub loop-index-preserved : goal.loop-index-preserved
loop-index-preserved c = cut_more c.args.text.now c.loop-index.index c.loop-index-test.true (ap begins_with_dots (sym (rest_whole c.args.text.now c.loop-index.index)) ∙ sym c.begins_with_dots.ensures ∙ c.if-begins_with_dots.false) ∙ c.loop-index.invariant
