use Rattle.bash_cursor.proofs.Known.{kept}
use Rattle.bash_cursor.proofs.failures.Failures.add.Goals as goal

pub returns : goal.returns
returns c = kept c.insert.result _ _ _ _ _ c.insert.ensures.entries c.insert.ensures.err
