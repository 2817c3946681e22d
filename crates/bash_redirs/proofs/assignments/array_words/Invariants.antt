use Rattle.std.proofs.Common.{◌≡◌, ◌-◌}
use Rattle.bash_reading.specs.At.{lines_at, word_at}
use Rattle.eb_grammar.specs.Peg.{single, ◌<$>◌, followed_by, many, gather_from}
use Rattle.bash_cursor.specs.Reads.{StaysOn}
use Rattle.bash_redirs.proofs.assignments.array_words.Given as goal

abbrev pub invariant-loop-turn : goal.invariant-loop-turn
invariant-loop-turn g l =
    (many (followed_by (word_at l.fn.c.room) (lines_at l.fn.c.room)) l.fn.c.spot ≡ gather_from (single <$> followed_by (word_at l.fn.c.room) (lines_at l.fn.c.room)) (l._turn-end - l._turn) l.found l.c.spot)
    × StaysOn l.fn.c l.c
