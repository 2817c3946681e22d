use Rattle.std.proofs.Common.{◌≡◌, None, cond, ap, ◌∙◌, arith}
use Rattle.std.specs.FinMap as map
use Rattle.shell_vars.proofs.Join.{is_between, removed_more}
use Rattle.shell_vars.proofs.elements.Elements.remove_between.Goals as goal

pub loop-at-preserved : goal.loop-at-preserved
loop-at-preserved c = λ q. ap (λ m. map.get m q) c.remove.ensures ∙ removed_more c.args.self.now c.loop-at.self c.args.start c.loop-at.at c.loop-at.auto.at c.loop-at.invariant q

pub returns : goal.returns
returns c =
    let last : c.loop-at.at ≡ c.args.end = omega (arith, c.loop-at.auto.at-end c.requires, c.loop-at-test.false) in
    λ q. c.loop-at.invariant q ∙ ap (λ e. cond (is_between c.args.start e q) None (map.get c.args.self.now q)) last
