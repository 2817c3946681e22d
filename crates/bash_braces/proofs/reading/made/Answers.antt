use Rattle.std.proofs.Common.{arith, ap, ◌∙◌}
use Rattle.bash_braces.specs.Reading.{role}
use Rattle.bash_braces.proofs.Placing.{made_next}
use Rattle.bash_braces.proofs.reading.made.Goals as goal

pub loop-left-preserved : goal.loop-left-preserved
loop-left-preserved g c = record {
  within = omega (arith, c.loop-left.invariant.within);
  reading = made_next g.V.Value.values c.args.tokens.now c.loop-left.left c.index-tokens-left.result c.of.result c.loop-left.reading c.in_ok-reading.reading c.loop-left-test.true c.loop-left.invariant.within (c.of.ensures ∙ ap role c.index-tokens-left.is) c.loop-left.invariant.reading c.in_ok-reading.ensures;
}
