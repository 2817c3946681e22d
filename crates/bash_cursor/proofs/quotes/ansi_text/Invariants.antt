use Rattle.std.proofs.Common.{◌≡◌, ◌-◌}
use Rattle.eb_grammar.specs.Peg.{gather, gather_from}
use Rattle.eb_grammar.specs.Words.{ansi_part}
use Rattle.bash_cursor.specs.Reads.{StaysOn, KeepsMarks}
use Rattle.bash_cursor.proofs.quotes.ansi_text.Given as goal

abbrev pub invariant-loop-turn : goal.invariant-loop-turn
invariant-loop-turn l =
    (gather ansi_part l.fn.c.spot ≡ gather_from ansi_part (l._turn-end - l._turn) l.text l.c.spot)
    × (StaysOn l.fn.c l.c × KeepsMarks l.fn.c l.c)
