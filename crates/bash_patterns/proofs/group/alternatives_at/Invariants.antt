use Rattle.std.proofs.Common.{length, map}
use Rattle.bash_patterns.proofs.Gathered.{Gathering}
use Rattle.bash_patterns.proofs.group.alternatives_at.Given as goal

abbrev pub invariant-loop-symbol : goal.invariant-loop-symbol
invariant-loop-symbol l = Gathering l.symbols (map (λ s. s.now) l.list.items) l.start l.depth l.rest

abbrev pub decreases-loop-symbol : goal.decreases-loop-symbol
decreases-loop-symbol l = length l.rest
