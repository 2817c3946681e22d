use Rattle.std.proofs.Common.{◌≡◌, ◌-◌}
use Rattle.eb_grammar.specs.Peg.{single, ◌<$>◌, many, gather_from}
use Rattle.bash_cursor.specs.Reads.{StaysOn}
use Rattle.bash_conditions.specs.Parts.{or_step}
use Rattle.bash_conditions.proofs.conditions.or_steps.Given as goal

abbrev pub invariant-loop-turn : goal.invariant-loop-turn
invariant-loop-turn g l =
    (many (or_step l.fn.c.room) l.fn.c.spot ≡ gather_from (single <$> or_step l.fn.c.room) (l._turn-end - l._turn) l.found l.c.spot)
    × StaysOn l.fn.c l.c
