use Rattle.std.proofs.Common.{◌≡◌, ◌++◌, length}
use Rattle.bash_braces.specs.Values.{joined}
use Rattle.bash_braces.proofs.words.join.Given as goal

abbrev pub invariant-loop-word : goal.invariant-loop-word
invariant-loop-word l = l.all ++ joined l.before l.after ≡ joined l.fn.before l.after

abbrev pub decreases-loop-word : goal.decreases-loop-word
decreases-loop-word l = length l.before
