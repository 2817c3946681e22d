use Rattle.bash_patterns.proofs.Matched.{all_matched}
use Rattle.bash_patterns.proofs.laws.all_matches_are_next_ones.Goals as goal

pub returns : goal.returns
returns c = all_matched
