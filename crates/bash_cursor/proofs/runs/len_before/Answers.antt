use Rattle.std.proofs.Common.{◌∙◌}
use Rattle.bash_cursor.proofs.RunEnds.{run_before}
use Rattle.bash_cursor.proofs.runs.len_before.Goals as goal

pub returns-clause-value : goal.returns-clause-value
returns-clause-value c = c.unwrap_or.ensures ∙ run_before c.args.byte c.args.text.now c.memchr2.result c.memchr2.ensures
