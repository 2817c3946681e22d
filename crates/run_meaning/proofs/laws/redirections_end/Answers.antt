use Rattle.run_meaning.proofs.BroughtBack.{redirections_end}
use Rattle.run_meaning.proofs.laws.redirections_end.Goals as goal

pub returns : goal.returns
returns c = redirections_end
