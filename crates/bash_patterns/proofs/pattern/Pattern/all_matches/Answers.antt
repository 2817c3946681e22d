use Rattle.std.proofs.Common.{rules}
use Rattle.bash_patterns.specs.Pattern.{meaning}
use Rattle.bash_patterns.proofs.pattern.Pattern.all_matches.Goals as goal

pub returns : goal.returns
unfolding meaning
returns c = search rules
