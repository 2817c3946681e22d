use Rattle.std.proofs.Common.{◌≡◌, ◌++◌, map, length}
use Rattle.std.specs.Prelude.{reverse}
use Rattle.eb_grammar.specs.Fill.{filled_joined}
use Rattle.bash_drafts.proofs.commands.each_joined.Given as goal

abbrev pub invariant-loop-joined : goal.invariant-loop-joined
invariant-loop-joined l = map (filled_joined l.bodies) l.rest ++ reverse l.found ≡ map (filled_joined l.bodies) l.fn.others

abbrev pub decreases-loop-joined : goal.decreases-loop-joined
decreases-loop-joined l = length l.rest
