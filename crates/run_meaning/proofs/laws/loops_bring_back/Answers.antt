use Rattle.run_meaning.proofs.BroughtBack.{loops_bring_back}
use Rattle.run_meaning.proofs.laws.loops_bring_back.Goals as goal

pub returns : goal.returns
returns c = loops_bring_back
