use Rattle.version_funcs.proofs.Marks.{after_marks-at}
use Rattle.version_funcs.proofs.class.next_piece.Goals as goal

pub returns-in-len1-up-clause-after_marks : goal.returns-in-len1-up-clause-after_marks
returns-in-len1-up-clause-after_marks c =
    after_marks-at c.args.mark c.args.text.now c.split_run.result.0.now c.split_run.result.1.now c.in-len1-up.len_at_least c.split_run.ensures.run c.split_run.ensures.rest
