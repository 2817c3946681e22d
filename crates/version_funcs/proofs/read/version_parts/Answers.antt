use Rattle.std.proofs.Common.{ap, ◌∙◌}
use Rattle.std.specs.List.{take_while}
use Rattle.version_funcs.specs.Byte.{after_while, is_digit_or_dot, is_no}
use Rattle.version_funcs.specs.Walk.{after_letter}
use Rattle.version_funcs.proofs.read.version_parts.Goals as goal

pub returns-clause-suffixes : goal.returns-clause-suffixes
returns-clause-suffixes c =
    c.split_run-3.ensures.run ∙ ap (take_while (is_no 45)) (c.split_letter-letter.ensures.after ∙ ap after_letter (c.split_run-2.ensures.rest ∙ ap (after_while is_digit_or_dot) c.split_run.ensures.rest))

pub returns-clause-revision : goal.returns-clause-revision
returns-clause-revision c =
    c.split_run-3.ensures.rest ∙ ap (after_while (is_no 45)) (c.split_letter-letter.ensures.after ∙ ap after_letter (c.split_run-2.ensures.rest ∙ ap (after_while is_digit_or_dot) c.split_run.ensures.rest))
