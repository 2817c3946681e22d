use Rattle.run_meaning.proofs.RunsKept.{runs_keep}
use Rattle.run_meaning.proofs.laws.runs_keep_steps_and_names.Goals as goal

pub returns : goal.returns
returns c = runs_keep
