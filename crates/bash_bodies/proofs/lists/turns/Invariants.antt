use Rattle.std.proofs.Common.{◌≡◌, ◌-◌}
use Rattle.eb_grammar.specs.Commands.{turn}
use Rattle.eb_grammar.specs.Grammar.{inside}
use Rattle.eb_grammar.specs.Peg.{gather, gather_from}
use Rattle.bash_cursor.specs.Reads.{StaysOn}
use Rattle.bash_bodies.proofs.lists.turns.Given as goal

abbrev pub invariant-loop-turn : goal.invariant-loop-turn
invariant-loop-turn g l =
    (gather (turn (inside l.fn.c.room)) l.fn.c.spot ≡ gather_from (turn (inside l.fn.c.room)) (l._turn-end - l._turn) l.found l.c.spot)
    × StaysOn l.fn.c l.c
