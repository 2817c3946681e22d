use Rattle.expand_values.specs.Seen.{found_of}
use Rattle.shell_state.specs.Spending.{left}
use Rattle.expand_operators.proofs.Compiled.{replaced_so}
use Rattle.expand_operators.proofs.operators.replace_found.Goals as goal

pub returns-clause-means : goal.returns-clause-means
returns-clause-means g c at l =
    replaced_so c.change_found.result c.args.op c.args.pattern.now.marks.now c.as_slice.result.now c.args.pattern.now.extended c.is_empty.result c.args.by.now c.in-Ok.form (found_of c.args.found.now) at
    (record at { left = left c.change_found.new.budget }) c.as_slice.ensures c.in_ok-bytes.bytes c.in_ok-bytes.ensures c.is_empty.ensures c.in-Ok.ensures (c.change_found.ensures.means at l)
