use Rattle.std.proofs.Common.{rules}
use Rattle.bash_arith.specs.Keeping.{state_of}
use Rattle.bash_arith.specs.Machine as m
use Rattle.bash_arith.specs.Variables.{stored}
use Rattle.bash_arith.proofs.Executed.{goes_on}
use Rattle.bash_arith.proofs.machine.Machine.store.Goals as goal

pub returns-clause-means : goal.returns-clause-means
returns-clause-means g c = λ n. goes_on (stored c.args.variable.now.name (m.subscript c.args.variable.now (m.below c.args.stack.now)) (m.top c.args.stack.now) (state_of c.args.self.now)) c.in_ok-number.number (state_of c.assign.new.self) (m.without_subscript c.args.variable.now (m.below c.args.stack.now)) c.push.new.self (search rules) (search rules)
