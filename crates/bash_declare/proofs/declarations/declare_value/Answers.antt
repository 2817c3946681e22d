use Rattle.std.proofs.Common.{rules}
use Rattle.bash_declare.proofs.Sequence.{value_as}
use Rattle.bash_declare.proofs.declarations.declare_value.Goals as goal

pub returns-in-Ok-clause-means : goal.returns-in-Ok-clause-means
returns-in-Ok-clause-means c at same =
    value_as c.args.declaration c.args.options _ _ _ at _ c.args.assignment c.as_slice-name.result.now c.subscript_of-at.result (search rules) c.subscript_of-at.ensures same c.in-Ok.ensures.ok (λ p q. c.mark_declared.ensures.means p q)
