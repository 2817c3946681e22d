use Rattle.run_meaning.proofs.BroughtBack.{calls_bring_back}
use Rattle.run_meaning.proofs.laws.calls_bring_back.Goals as goal

pub returns : goal.returns
returns c = calls_bring_back
