use Rattle.std.proofs.Common.{rules}
use Rattle.bash_declare.proofs.Sequence.{name_as}
use Rattle.bash_declare.proofs.declarations.declare_name.Goals as goal

pub returns-in-Ok-clause-means : goal.returns-in-Ok-clause-means
returns-in-Ok-clause-means c at same =
    name_as c.args.declaration c.args.options _ _ _ at _ c.args.name.now c.as_slice-name.result.now (search rules) same c.in-Ok.ensures.ok (λ p q. c.mark_declared.ensures.means p q)
