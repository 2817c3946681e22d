use Rattle.bash_split.proofs.Kept.{each-stays}
use Rattle.bash_split.proofs.laws.no_field_holds_a_mark_that_divides.Goals as goal

pub returns : goal.returns
returns c = each-stays
