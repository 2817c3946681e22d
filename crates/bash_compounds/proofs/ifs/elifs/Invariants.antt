use Rattle.std.proofs.Common.{◌≡◌, ◌-◌}
use Rattle.eb_grammar.specs.Grammar.{inside, rules_in}
use Rattle.eb_grammar.specs.Peg.{single, ◌<$>◌, many, gather_from}
use Rattle.bash_cursor.specs.Reads.{KeepsMarks, StaysOn}
use Rattle.eb_grammar.specs.Compounds.{elif}
use Rattle.bash_compounds.proofs.ifs.elifs.Given as goal

abbrev pub invariant-loop-turn : goal.invariant-loop-turn
invariant-loop-turn g l =
    (many (elif (rules_in (inside l.fn.c.room))) l.fn.c.spot ≡ gather_from (single <$> elif (rules_in (inside l.fn.c.room))) (l._turn-end - l._turn) l.found l.c.spot)
    × (StaysOn l.fn.c l.c × KeepsMarks l.fn.c l.c)
