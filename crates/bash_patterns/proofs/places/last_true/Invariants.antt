use Rattle.bash_patterns.specs.Places.{IsLastTrue}
use Rattle.bash_patterns.proofs.places.last_true.Given as goal

abbrev pub invariant-loop-place : goal.invariant-loop-place
invariant-loop-place l = IsLastTrue l.values l.place l.last
