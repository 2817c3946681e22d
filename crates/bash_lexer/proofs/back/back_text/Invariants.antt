use Rattle.std.proofs.Common.{◌≡◌, ◌-◌}
use Rattle.eb_grammar.specs.Words.{back_part}
use Rattle.eb_grammar.specs.Peg.{gather, gather_from}
use Rattle.bash_cursor.specs.Reads.{StaysOn, KeepsMarks}
use Rattle.bash_lexer.proofs.back.back_text.Given as goal

abbrev pub invariant-loop-turn : goal.invariant-loop-turn
invariant-loop-turn l =
    (gather back_part l.fn.c.spot ≡ gather_from back_part (l._turn-end - l._turn) l.text l.c.spot)
    × (StaysOn l.fn.c l.c × KeepsMarks l.fn.c l.c)
