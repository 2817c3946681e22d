use Rattle.std.proofs.Common.{rules}
use Rattle.bash_conditions.proofs.Joined.{and_lines_found}
use Rattle.bash_conditions.proofs.conditions.and_lines.Goals as goal

pub returns-3 : goal.returns-3
returns-3 g c =
    (and_lines_found c.args.c.now.room c.args.c.now.spot c.not.new.arg2.spot c.lines.new.arg2.spot c.and_steps.new.c.spot c.in_ok-first.first _ (search rules) (search rules) (search rules), search rules)
