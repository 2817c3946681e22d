use Rattle.shell_vars.proofs.Outcomes.{holder-bound}
use Rattle.shell_vars.proofs.store.Store.unset.Goals as goal

pub unset_at-requires-clause-bound : goal.unset_at-requires-clause-bound
unset_at-requires-clause-bound c = holder-bound c.args.name.now c.args.self.now c.in-Some.depth c.in-Some.ensures.value
