use Rattle.run_meaning.proofs.BroughtBack.{substitutions_bring_back}
use Rattle.run_meaning.proofs.laws.substitutions_bring_back.Goals as goal

pub returns : goal.returns
returns c = substitutions_bring_back
