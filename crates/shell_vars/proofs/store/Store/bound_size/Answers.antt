use Rattle.std.proofs.Common.{ap, arith}
use Rattle.shell_vars.specs.Store.{size}
use Rattle.shell_vars.proofs.Frames.{bound_is, unbound_is}
use Rattle.shell_vars.proofs.store.Store.bound_size.Goals as goal

pub overflow_add-result : goal.overflow_add-result
overflow_add-result c = omega (arith, bound_is c.args.depth c.args.name.now c.in-Some.binding.now c.args.self.now c.in-Some.ensures c.requires, ap size c.self.view_is, c.self.invariant.counted, c.self.invariant.within)

pub returns-in-Some : goal.returns-in-Some
returns-in-Some c = omega (arith, bound_is c.args.depth c.args.name.now c.in-Some.binding.now c.args.self.now c.in-Some.ensures c.requires, ap size c.self.view_is, c.self.invariant.counted, c.self.invariant.within)

pub returns-in-None : goal.returns-in-None
returns-in-None c = omega (arith, unbound_is c.args.depth c.args.name.now c.args.self.now c.in-None.ensures c.requires)
