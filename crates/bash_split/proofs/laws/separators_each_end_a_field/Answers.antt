use Rattle.bash_split.proofs.Ends.{parts-fields}
use Rattle.bash_split.proofs.laws.separators_each_end_a_field.Goals as goal

pub returns : goal.returns
returns c = parts-fields
