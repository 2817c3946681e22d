use Rattle.std.proofs.Common.{ap, arith}
use Rattle.shell_vars.specs.Store.{size}
use Rattle.shell_vars.proofs.Frames.{size-change}
use Rattle.shell_vars.proofs.store.Store.used_after.Goals as goal

pub returns-then-gained-kept-clause-above : goal.returns-then-gained-kept-clause-above
returns-then-gained-kept-clause-above c =
    omega (arith, size-change c.args.change.now c.args.depth c.args.name.now c.args.self.now c.requires.within c.requires.can, ap size c.self.view_is, c.lost.ensures.value, c.lost.ensures.within, c.self.invariant.counted, c.self.invariant.within)

pub returns-else-gained-kept-clause-value : goal.returns-else-gained-kept-clause-value
returns-else-gained-kept-clause-value c =
    omega (arith, size-change c.args.change.now c.args.depth c.args.name.now c.args.self.now c.requires.within c.requires.can, ap size c.self.view_is, c.lost.ensures.value, c.lost.ensures.within, c.self.invariant.counted, c.self.invariant.within)
