use Rattle.std.proofs.Common.{◌-◌, length}
use Rattle.bash_patterns.specs.Form.{form_of}
use Rattle.bash_patterns.specs.Matching.{matches}
use Rattle.bash_patterns.proofs.Longest.{IsFound}
use Rattle.bash_patterns.proofs.matches.matches_by.Given as goal

abbrev pub invariant-places : goal.invariant-places
invariant-places l = IsFound (matches (form_of l.node)) l.text l.place l.found.items

abbrev pub decreases-places : goal.decreases-places
decreases-places l = length l.text - l.place
