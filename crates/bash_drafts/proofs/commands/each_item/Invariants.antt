use Rattle.std.proofs.Common.{◌≡◌, ◌++◌, map, length}
use Rattle.std.specs.Prelude.{reverse}
use Rattle.eb_grammar.specs.Fill.{filled_item}
use Rattle.bash_drafts.proofs.commands.each_item.Given as goal

abbrev pub invariant-loop-item : goal.invariant-loop-item
invariant-loop-item l = map (filled_item l.bodies) l.rest ++ reverse l.found ≡ map (filled_item l.bodies) l.fn.items

abbrev pub decreases-loop-item : goal.decreases-loop-item
decreases-loop-item l = length l.rest
