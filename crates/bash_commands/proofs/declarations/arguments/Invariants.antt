use Rattle.std.proofs.Common.{◌≡◌, ◌-◌}
use Rattle.eb_grammar.specs.Grammar.{inside}
use Rattle.eb_grammar.specs.Peg.{single, ◌<$>◌, many, gather_from}
use Rattle.bash_cursor.specs.Reads.{StaysOn}
use Rattle.eb_grammar.specs.Commands.{argument}
use Rattle.bash_commands.proofs.declarations.arguments.Given as goal

abbrev pub invariant-loop-turn : goal.invariant-loop-turn
invariant-loop-turn g l =
    (many (argument (inside l.fn.c.room)) l.fn.c.spot ≡ gather_from (single <$> argument (inside l.fn.c.room)) (l._turn-end - l._turn) l.found l.c.spot)
    × StaysOn l.fn.c l.c
