use Rattle.bash_split.proofs.Runs.{breaks-fields}
use Rattle.bash_split.proofs.laws.empty_ifs_splits_at_breaks_alone.Goals as goal

pub returns : goal.returns
returns c = breaks-fields
