use Rattle.std.proofs.Common.{◌≡◌, ◌-◌}
use Rattle.eb_grammar.specs.Commands.{pipe_mark}
use Rattle.eb_grammar.specs.Peg.{single, ◌<$>◌, many, gather_from}
use Rattle.bash_cursor.specs.Reads.{StaysOn, KeepsMarks}
use Rattle.bash_bodies.proofs.operators.pipe_marks.Given as goal

abbrev pub invariant-loop-turn : goal.invariant-loop-turn
invariant-loop-turn l =
    (many pipe_mark l.fn.c.spot ≡ gather_from (single <$> pipe_mark) (l._turn-end - l._turn) l.found l.c.spot)
    × (StaysOn l.fn.c l.c × KeepsMarks l.fn.c l.c)
