use Rattle.bash_split.proofs.Apart.{fields-apart}
use Rattle.bash_split.proofs.laws.breaks_part_what_is_split.Goals as goal

pub returns : goal.returns
returns c = fields-apart
