use Rattle.std.proofs.Common.{◌≡◌, ◌-◌}
use Rattle.eb_grammar.specs.Grammar.{inside}
use Rattle.eb_grammar.specs.Peg.{single, ◌<$>◌, many, gather_from}
use Rattle.bash_cursor.specs.Reads.{StaysOn}
use Rattle.eb_grammar.specs.Commands.{tail_part}
use Rattle.bash_commands.proofs.tails.tail_parts.Given as goal

abbrev pub invariant-loop-turn : goal.invariant-loop-turn
invariant-loop-turn g l =
    (many (tail_part (inside l.fn.c.room)) l.fn.c.spot ≡ gather_from (single <$> tail_part (inside l.fn.c.room)) (l._turn-end - l._turn) l.found l.c.spot)
    × StaysOn l.fn.c l.c
