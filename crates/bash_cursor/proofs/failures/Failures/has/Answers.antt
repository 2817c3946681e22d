use Rattle.std.proofs.Common.{sym, ◌∙◌}
use Rattle.bash_cursor.proofs.Known.{covered, found}
use Rattle.bash_cursor.proofs.failures.Failures.has.Goals as goal

pub returns-in-Some : goal.returns-in-Some
returns-in-Some c =
    λ is text known. covered c.in-Some.failure.now c.args.sought (sym c.covers.ensures ∙ is) text (found text _ _ c.in-Some.failure.now known (sym c.in-Some.ensures.value))
