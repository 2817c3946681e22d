use Rattle.std.proofs.Common.{◌≡◌, ap, sym, ◌∙◌, arith}
use Rattle.std.specs.Prelude.{unwrap_or}
use Rattle.shell_vars.specs.Store.{size, held_at, unset_here}
use Rattle.shell_vars.specs.Changes.{lost}
use Rattle.shell_vars.proofs.Frames.{lost-le-size, lost-unset}
use Rattle.shell_vars.proofs.store.Store.lost.Goals as goal

pub returns-in-Some-clause-value : goal.returns-in-Some-clause-value
returns-in-Some-clause-value c =
    let same : lost c.args.change.now c.in-Some.binding.now ≡ lost c.args.change.now (held_at c.args.depth c.args.name.now c.args.self.now) = ap (λ o. lost c.args.change.now (unwrap_or o unset_here)) c.in-Some.ensures in
    omega (arith, lost-le-size c.args.change.now c.args.depth c.args.name.now c.args.self.now c.requires, ap size c.self.view_is, c.self.invariant.counted, c.self.invariant.within)

pub returns-in-Some-clause-within : goal.returns-in-Some-clause-within
returns-in-Some-clause-within c =
    let same : lost c.args.change.now c.in-Some.binding.now ≡ lost c.args.change.now (held_at c.args.depth c.args.name.now c.args.self.now) = ap (λ o. lost c.args.change.now (unwrap_or o unset_here)) c.in-Some.ensures in
    omega (arith, lost-le-size c.args.change.now c.args.depth c.args.name.now c.args.self.now c.requires)

pub returns-in-None-clause-value : goal.returns-in-None-clause-value
returns-in-None-clause-value c = sym (ap (λ o. lost c.args.change.now (unwrap_or o unset_here)) (sym c.in-None.ensures) ∙ lost-unset c.args.change.now)
