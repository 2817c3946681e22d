use Rattle.run_meaning.proofs.RunsKept.{run_unfolds}
use Rattle.run_meaning.proofs.laws.runs_unfold.Goals as goal

pub returns : goal.returns
returns c = run_unfolds
