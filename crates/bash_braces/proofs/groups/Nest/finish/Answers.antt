use Rattle.std.proofs.Common.{◌∙◌}
use Rattle.bash_braces.proofs.Nesting.{ends_step}
use Rattle.bash_braces.proofs.groups.Nest.finish.Goals as goal

pub loop-level-preserved : goal.loop-level-preserved
loop-level-preserved c = ends_step c.loop-level.all c.in_ok-all.all c.put_first.new.self c.loop-level.outer c.take_last.new.self c.in-Some.level c.plain_piece.result c.in-Some.ensures c.in_ok-all.ensures c.plain_piece.ensures c.in_ok-put_first.ensures ∙ c.loop-level.invariant
