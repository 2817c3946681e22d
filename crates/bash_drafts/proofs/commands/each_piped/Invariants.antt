use Rattle.std.proofs.Common.{◌≡◌, ◌++◌, map, length}
use Rattle.std.specs.Prelude.{reverse}
use Rattle.eb_grammar.specs.Fill.{filled_piped}
use Rattle.bash_drafts.proofs.commands.each_piped.Given as goal

abbrev pub invariant-loop-piped : goal.invariant-loop-piped
invariant-loop-piped l = map (filled_piped l.bodies) l.rest ++ reverse l.found ≡ map (filled_piped l.bodies) l.fn.others

abbrev pub decreases-loop-piped : goal.decreases-loop-piped
decreases-loop-piped l = length l.rest
