use Rattle.bash_split.proofs.Kept.{flat-fields}
use Rattle.bash_split.proofs.laws.fields_keep_every_other_mark.Goals as goal

pub returns : goal.returns
returns c = flat-fields
