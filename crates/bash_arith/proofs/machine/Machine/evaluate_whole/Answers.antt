use Rattle.bash_arith.specs.Keeping.{state_of}
use Rattle.bash_arith.proofs.Executed.{arithmetic_spent}
use Rattle.bash_arith.proofs.machine.Machine.evaluate_whole.Goals as goal

pub returns-clause-spent : goal.returns-clause-spent
returns-clause-spent g c = λ h. arithmetic_spent c.args.text.now (state_of c.args.self.now) (state_of c.evaluate.new.self) c.evaluate.result h c.evaluate.ensures.means
