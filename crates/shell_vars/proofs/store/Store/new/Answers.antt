use Rattle.std.proofs.Common.{rules}
use Rattle.shell_vars.proofs.Frames.{counts-fresh}
use Rattle.shell_vars.proofs.store.Store.new.Goals as goal

pub invariant_of-result : goal.invariant_of-result
invariant_of-result c = counts-fresh _ (search rules)
