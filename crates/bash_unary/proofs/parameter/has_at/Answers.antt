use Rattle.std.proofs.Common.{rules, refl}
use Rattle.shell_state.specs.Spending.{left}
use Rattle.bash_unary.proofs.Set.{at_index}
use Rattle.bash_unary.proofs.parameter.has_at.Goals as goal

-- the subscript is evaluated, then the element is asked for
pub returns-in-Ok-clause-means : goal.returns-in-Ok-clause-means
returns-in-Ok-clause-means g c at e l =
    at_index c.args.name.now c.args.subscript.now c.in-Ok.index _ at (record at { store = c.value_of.new.vars.present; left = left c.value_of.new.budget }) c.has_element.result
    (search rules) (search rules) (c.in-Ok.ensures.means at e l) (c.has_element.ensures.means (record at { store = c.value_of.new.vars.present; left = left c.value_of.new.budget }) refl)
