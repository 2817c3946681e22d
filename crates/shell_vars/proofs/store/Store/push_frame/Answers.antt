use Rattle.std.proofs.Common.{rules}
use Rattle.shell_vars.proofs.Frames.{counts-pushed}
use Rattle.shell_vars.proofs.store.Store.push_frame.Goals as goal

pub invariant_of-self-2 : goal.invariant_of-self-2
invariant_of-self-2 c = counts-pushed c.self.inside.frames.items _ _ c.args.kind c.self.invariant (search rules)
