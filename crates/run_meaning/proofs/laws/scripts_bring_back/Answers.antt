use Rattle.run_meaning.proofs.BroughtBack.{scripts_bring_back}
use Rattle.run_meaning.proofs.laws.scripts_bring_back.Goals as goal

pub returns : goal.returns
returns c = scripts_bring_back
