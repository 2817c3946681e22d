use Rattle.std.proofs.Common.{◌≡◌, ◌-◌}
use Rattle.eb_grammar.specs.Grammar.{inside, rules_in}
use Rattle.eb_grammar.specs.Params.{slice_piece}
use Rattle.eb_grammar.specs.Peg.{single, ◌<$>◌, many, gather_from}
use Rattle.bash_cursor.specs.Reads.{StaysOn, KeepsMarks}
use Rattle.bash_lexer.proofs.slices.slice_pieces.Given as goal

abbrev pub invariant-loop-turn : goal.invariant-loop-turn
invariant-loop-turn g l =
    (many (slice_piece (rules_in (inside l.fn.c.room)) l.fn.quoted) l.fn.c.spot ≡ gather_from (single <$> slice_piece (rules_in (inside l.fn.c.room)) l.fn.quoted) (l._turn-end - l._turn) l.found l.c.spot)
    × (StaysOn l.fn.c l.c × KeepsMarks l.fn.c l.c)
