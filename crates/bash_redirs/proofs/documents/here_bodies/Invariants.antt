use Rattle.std.proofs.Common.{◌≡◌, drop}
use Rattle.eb_grammar.specs.Grammar.{inside}
use Rattle.eb_grammar.specs.HereDocuments.{here_bodies}
use Rattle.bash_cursor.specs.Reads.{StaysOn}
use Rattle.bash_redirs.proofs.documents.here_bodies.Given as goal

abbrev pub invariant-loop-mark : goal.invariant-loop-mark
invariant-loop-mark g l =
    (here_bodies (inside l.fn.c.room) l.fn.marks l.fn.c.spot ≡ here_bodies (inside l.fn.c.room) (drop l.mark-index l.marks) l.c.spot)
    × StaysOn l.fn.c l.c
