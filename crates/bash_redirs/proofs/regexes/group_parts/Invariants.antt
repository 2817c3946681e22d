use Rattle.std.proofs.Common.{◌≡◌, ◌-◌}
use Rattle.eb_grammar.specs.Conditions.{in_regex}
use Rattle.eb_grammar.specs.Grammar.{inside, rules_in}
use Rattle.eb_grammar.specs.Peg.{single, ◌<$>◌, many, gather_from}
use Rattle.bash_cursor.specs.Reads.{StaysOn, KeepsMarks}
use Rattle.bash_redirs.proofs.regexes.group_parts.Given as goal

abbrev pub invariant-loop-turn : goal.invariant-loop-turn
invariant-loop-turn g l =
    (many (in_regex (rules_in (inside l.fn.c.room))) l.fn.c.spot ≡ gather_from (single <$> in_regex (rules_in (inside l.fn.c.room))) (l._turn-end - l._turn) l.found l.c.spot)
    × (StaysOn l.fn.c l.c × KeepsMarks l.fn.c l.c)
