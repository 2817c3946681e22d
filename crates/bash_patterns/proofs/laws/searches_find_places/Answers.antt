use Rattle.bash_patterns.proofs.Placed.{greatest-is, least-is, leftmost-is}
use Rattle.bash_patterns.proofs.laws.searches_find_places.Goals as goal

pub returns : goal.returns
returns c = record { least = least-is; greatest = greatest-is; leftmost = leftmost-is }
