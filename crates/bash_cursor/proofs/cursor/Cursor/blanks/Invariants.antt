use Rattle.std.proofs.Common.{◌≡◌, ◌-◌, []}
use Rattle.eb_grammar.specs.Peg.{single, ◌<$>◌, gather_from}
use Rattle.eb_grammar.specs.Names.{blank, blanks}
use Rattle.bash_cursor.specs.Reads.{StaysOn, KeepsMarks, passed}
use Rattle.bash_cursor.proofs.cursor.Cursor.blanks.Given as goal

abbrev pub invariant-loop-turn : goal.invariant-loop-turn
invariant-loop-turn l =
    (passed blanks l.fn.self.spot ≡ passed (gather_from (single <$> blank) (l._turn-end - l._turn) []) l.self.spot)
    × (StaysOn l.fn.self l.self × KeepsMarks l.fn.self l.self)
