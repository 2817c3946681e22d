use Rattle.std.proofs.Common.{◌≡◌, ◌++◌, map, length}
use Rattle.std.specs.Prelude.{reverse}
use Rattle.eb_grammar.specs.Fill.{filled_prefix}
use Rattle.bash_drafts.proofs.redirections.filled_prefixes.Given as goal

abbrev pub invariant-loop-prefix : goal.invariant-loop-prefix
invariant-loop-prefix l = map (filled_prefix l.bodies) l.rest ++ reverse l.found ≡ map (filled_prefix l.bodies) l.fn.prefixes

abbrev pub decreases-loop-prefix : goal.decreases-loop-prefix
decreases-loop-prefix l = length l.rest
