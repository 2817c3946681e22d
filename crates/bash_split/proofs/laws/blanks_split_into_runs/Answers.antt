use Rattle.bash_split.proofs.Runs.{runs-fields}
use Rattle.bash_split.proofs.laws.blanks_split_into_runs.Goals as goal

pub returns : goal.returns
returns c = runs-fields
