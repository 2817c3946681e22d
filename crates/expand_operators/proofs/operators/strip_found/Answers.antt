use Rattle.expand_values.specs.Seen.{found_of}
use Rattle.shell_state.specs.Spending.{left}
use Rattle.expand_operators.proofs.Compiled.{stripped_so}
use Rattle.expand_operators.proofs.operators.strip_found.Goals as goal

pub returns-clause-means : goal.returns-clause-means
returns-clause-means g c at e l =
    stripped_so c.change_found.result c.args.op c.args.pattern.now.marks.now c.as_slice.result.now c.args.pattern.now.extended c.in-Ok.form (found_of c.args.found.now) at
    (record at { left = left c.change_found.new.budget }) c.as_slice.ensures e c.in-Ok.ensures (c.change_found.ensures.means at l)
