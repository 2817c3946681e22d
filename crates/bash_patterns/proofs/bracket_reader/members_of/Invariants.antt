use Rattle.std.proofs.Common.{◌≡◌, length, true}
use Rattle.bash_patterns.specs.Bracketed.{members_from}
use Rattle.bash_patterns.proofs.Members.{added}
use Rattle.bash_patterns.proofs.bracket_reader.members_of.Given as goal

abbrev pub invariant-loop-symbol : goal.invariant-loop-symbol
invariant-loop-symbol l = members_from true 0 l.symbols ≡ added l.members (members_from l.is_first 0 l.rest)

abbrev pub decreases-loop-symbol : goal.decreases-loop-symbol
decreases-loop-symbol l = length l.rest
