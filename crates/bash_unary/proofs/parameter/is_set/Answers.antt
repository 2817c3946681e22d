use Rattle.std.proofs.Common.{rules}
use Rattle.std.specs.Option.{option_copied}
use Rattle.shell_state.specs.Spending.{left}
use Rattle.bash_unary.proofs.Set.{of_name}
use Rattle.bash_unary.proofs.parameter.is_set.Goals as goal

pub returns-in-Some-Name-clause-means : goal.returns-in-Some-Name-clause-means
returns-in-Some-Name-clause-means g c at e a l =
    of_name c.args.operand.now c.in-Some-Name.name c.as_slice.result.now c.in-Some-Name.read (option_copied c.as_ref.result)
    (option_copied c.subscript_in-subscript.result) (option_copied c.args.reference) at
    (record at { store = c.has_variable.new.vars.present; left = left c.has_variable.new.budget }) c.has_variable.result
    (search rules) c.as_slice.ensures (search rules) c.subscript_in-subscript.ensures (c.has_variable.ensures.means at e l)
