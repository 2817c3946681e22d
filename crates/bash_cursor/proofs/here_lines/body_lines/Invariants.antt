use Rattle.std.proofs.Common.{◌≡◌, ◌-◌}
use Rattle.eb_grammar.specs.Peg.{gather, gather_from}
use Rattle.eb_grammar.specs.HereDocuments.{body_line}
use Rattle.bash_cursor.specs.Reads.{StaysOn, KeepsMarks}
use Rattle.bash_cursor.proofs.here_lines.body_lines.Given as goal

abbrev pub invariant-loop-turn : goal.invariant-loop-turn
invariant-loop-turn l =
    (gather (body_line l.mark) l.fn.c.spot ≡ gather_from (body_line l.mark) (l._turn-end - l._turn) l.text l.c.spot)
    × (StaysOn l.fn.c l.c × KeepsMarks l.fn.c l.c)
