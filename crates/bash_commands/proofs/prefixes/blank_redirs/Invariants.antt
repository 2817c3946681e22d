use Rattle.std.proofs.Common.{◌≡◌, ◌-◌}
use Rattle.eb_grammar.specs.Grammar.{inside}
use Rattle.eb_grammar.specs.Peg.{single, ◌<$>◌, many, gather_from}
use Rattle.bash_cursor.specs.Reads.{StaysOn}
use Rattle.bash_commands.specs.Parts.{blank_redir}
use Rattle.bash_commands.proofs.prefixes.blank_redirs.Given as goal

abbrev pub invariant-loop-turn : goal.invariant-loop-turn
invariant-loop-turn g l =
    (many (blank_redir (inside l.fn.c.room)) l.fn.c.spot ≡ gather_from (single <$> blank_redir (inside l.fn.c.room)) (l._turn-end - l._turn) l.found l.c.spot)
    × StaysOn l.fn.c l.c
