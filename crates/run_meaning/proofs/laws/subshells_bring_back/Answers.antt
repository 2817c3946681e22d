use Rattle.run_meaning.proofs.BroughtBack.{subshells_bring_back}
use Rattle.run_meaning.proofs.laws.subshells_bring_back.Goals as goal

pub returns : goal.returns
returns c = subshells_bring_back
