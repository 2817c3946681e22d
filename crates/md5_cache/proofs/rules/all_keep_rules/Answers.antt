use Rattle.std.proofs.Common.{◌≡◌, take, subst, refl, arith}
use Rattle.std.specs.List.{All}
use Rattle.std.proofs.lemmas.List.{take_all}
use Rattle.std.proofs.lemmas.List.Elements.{All-more}
use Rattle.md5_cache.specs.Parts.{KeepsRules}
use Rattle.md5_cache.proofs.rules.all_keep_rules.Goals as goal

pub loop-value-preserved : goal.loop-value-preserved
loop-value-preserved c =
    let P = KeepsRules c.args.eapi in
    All-more P c.args.values.now c.loop-value.value-index c.value-item.result (omega arith) c.loop-value.invariant
    (subst P c.value-item.is (c.in_ok-keeps_rules.ensures.0 c.if-not-branch.false))

pub returns : goal.returns
returns c =
    let i = c.loop-value.value-index in
    let whole : take i c.args.values.now ≡ c.args.values.now = take_all i c.args.values.now (omega arith) in
    ((λ _. subst (All (KeepsRules c.args.eapi)) whole c.loop-value.invariant), (λ _. refl))
