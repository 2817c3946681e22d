use Rattle.shell_state.specs.Spending.{left}
use Rattle.bash_cond.specs.Arithmetic.{evaluates}
use Rattle.bash_cond.specs.Operators.{stand}
use Rattle.bash_cond.proofs.Evaluated.{first_stopped}
use Rattle.bash_cond.proofs.numbers.compare_numbers.Goals as goal

pub returns-in-Err-clause-means : goal.returns-in-Err-clause-means
returns-in-Err-clause-means g c at s l =
    first_stopped c.in-Err.stopped (evaluates c.args.numbers.now.left.now at) c.args.numbers.now.right.now
    (stand c.args.numbers.now.relation) (record at { store = c.value_of.new.vars.present; left = left c.value_of.new.budget })
    (c.in-Err.ensures.means at s l)
