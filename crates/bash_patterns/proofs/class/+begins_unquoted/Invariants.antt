use Rattle.std.proofs.Common.{length}
use Rattle.bash_patterns.proofs.class.+begins_unquoted.Given as goal

abbrev pub decreases-begins_unquoted : goal.decreases-begins_unquoted
decreases-begins_unquoted l = length l.text.now
