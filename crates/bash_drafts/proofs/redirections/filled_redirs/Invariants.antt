use Rattle.std.proofs.Common.{◌≡◌, ◌++◌, map, length}
use Rattle.std.specs.Prelude.{reverse}
use Rattle.eb_grammar.specs.Fill.{filled_redir}
use Rattle.bash_drafts.proofs.redirections.filled_redirs.Given as goal

abbrev pub invariant-loop-redir : goal.invariant-loop-redir
invariant-loop-redir l = map (filled_redir l.bodies) l.rest ++ reverse l.found ≡ map (filled_redir l.bodies) l.fn.redirs

abbrev pub decreases-loop-redir : goal.decreases-loop-redir
decreases-loop-redir l = length l.rest
