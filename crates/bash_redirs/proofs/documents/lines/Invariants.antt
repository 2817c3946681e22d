use Rattle.std.proofs.Common.{◌≡◌, ◌-◌, []}
use Rattle.eb_grammar.specs.Grammar.{inside}
use Rattle.eb_grammar.specs.Peg.{single, ◌<$>◌, many, gather_from}
use Rattle.bash_cursor.specs.Reads.{StaysOn, passed}
use Rattle.bash_redirs.specs.Parts.{line_part}
use Rattle.bash_redirs.proofs.documents.lines.Given as goal

abbrev pub invariant-loop-turn : goal.invariant-loop-turn
invariant-loop-turn g l =
    (passed (many (line_part (inside l.fn.c.room))) l.fn.c.spot ≡ passed (gather_from (single <$> line_part (inside l.fn.c.room)) (l._turn-end - l._turn) []) l.c.spot)
    × StaysOn l.fn.c l.c
