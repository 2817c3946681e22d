use Rattle.std.proofs.Common.{◌≡◌, ◌-◌}
use Rattle.bash_reading.specs.At.{piece_at}
use Rattle.eb_grammar.specs.Peg.{single, ◌<$>◌, many, gather_from}
use Rattle.bash_cursor.specs.Reads.{StaysOn, KeepsMarks}
use Rattle.bash_redirs.proofs.assignments.pieces.Given as goal

abbrev pub invariant-loop-turn : goal.invariant-loop-turn
invariant-loop-turn g l =
    (many (piece_at l.fn.c.room) l.fn.c.spot ≡ gather_from (single <$> piece_at l.fn.c.room) (l._turn-end - l._turn) l.found l.c.spot)
    × (StaysOn l.fn.c l.c × KeepsMarks l.fn.c l.c)
