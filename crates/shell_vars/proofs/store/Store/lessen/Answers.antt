use Rattle.std.proofs.Common.{arith}
use Rattle.std.proofs.lemmas.Result.{IfErr-weaker}
use Rattle.shell_vars.specs.Store.{bind_at, held_at}
use Rattle.shell_vars.specs.Changes.{changed}
use Rattle.shell_vars.proofs.Outcomes.{only_memory, size-lessened}
use Rattle.shell_vars.proofs.store.Store.lessen.Goals as goal

pub returns-clause-memory : goal.returns-clause-memory
returns-clause-memory c =
    let s = c.args.self.now in
    let less = size-lessened c.args.change c.args.depth c.args.name.now s c.requires.within c.requires.bound c.requires.can c.requires.less in
    IfErr-weaker c.change.result _ _ (λ e r. only_memory (bind_at c.args.depth c.args.name.now (changed c.args.change (held_at c.args.depth c.args.name.now s)) s) e (omega (arith, less, c.bytes_used.ensures.value, c.bytes_used.ensures.within)) r) c.change.ensures.refused
