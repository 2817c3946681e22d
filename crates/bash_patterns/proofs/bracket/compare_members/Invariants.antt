use Rattle.std.proofs.Common.{◌≡◌, length}
use Rattle.bash_patterns.proofs.bracket.compare_members.Given as goal

abbrev pub invariant-members : goal.invariant-members
invariant-members l = l.left ≡ l.others_left → l.members ≡ l.others

abbrev pub decreases-members : goal.decreases-members
decreases-members l = length l.left
