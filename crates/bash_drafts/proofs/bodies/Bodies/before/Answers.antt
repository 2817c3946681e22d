use Rattle.std.proofs.Common.{◌≡◌, true, drop, subst, rules, of_calls}
use Rattle.eb_grammar.specs.Fill as fill
use Rattle.bash_drafts.proofs.Rising.{passes}
use Rattle.bash_drafts.proofs.bodies.Bodies.before.Goals as goal

pub returns-clause-same : goal.returns-clause-same
returns-clause-same c =
    let up : c.self.inside.rise ≡ true = search rules in
    let same = passes c.args.mark c.self.inside.list.now c.partition_point.result c.partition_point.ensures.partitioned
    (λ a s f k. search (rules, of_calls)) (c.self.invariant up) in
    subst (λ l. fill.body_of c.args.mark (drop c.partition_point.result l) ≡ fill.body_of c.args.mark l) c.self.view_is same
