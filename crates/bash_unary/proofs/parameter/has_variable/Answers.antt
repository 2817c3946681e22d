use Rattle.std.proofs.Common.{rules}
use Rattle.std.specs.Option.{option_copied}
use Rattle.shell_state.specs.Spending.{left}
use Rattle.bash_unary.proofs.Set.{without_subscript}
use Rattle.bash_unary.proofs.parameter.has_variable.Goals as goal

pub returns-in-None-clause-means : goal.returns-in-None-clause-means
returns-in-None-clause-means g c at e l =
    without_subscript c.args.name.now (option_copied c.args.subscript) at c.args.vars.now.present (left c.args.budget.now) c.has_element.result
    (search rules) e l (c.has_element.ensures.means at e)
