use Rattle.std.proofs.Common.{subst}
use Rattle.std.specs.Option.{option_copied, option_map}
use Rattle.bash_params.specs.Answer.{Refuses, checked}
use Rattle.bash_params.specs.Replacement.{replaced}
use Rattle.bash_patterns.specs.Pattern.{meaning}
use Rattle.word_meaning.specs.Operators.{replace_of}
use Rattle.expand_operators.specs.Changes.{unless}
use Rattle.expand_operators.proofs.Paid.{fits_not}
use Rattle.expand_operators.proofs.change.replace_text.Goals as goal

pub returns-in-Err : goal.returns-in-Err
returns-in-Err c =
    fits_not
    (replaced (replace_of c.args.change.now.op) (unless c.args.change.now.is_empty (meaning c.args.change.now.pattern.now)) c.args.change.now.by.now c.args.text.now)
    c.stop_of.result c.in-Err.error c.stop_of.ensures
    (subst
    (λ p. Refuses c.in-Err.error (checked (replaced (replace_of c.args.change.now.op) p c.args.change.now.by.now c.args.text.now)))
    c.unless_empty-pattern.ensures
    (subst
    (λ o. Refuses c.in-Err.error (checked (replaced o (option_map meaning (option_copied c.unless_empty-pattern.result)) c.args.change.now.by.now c.args.text.now)))
    c.replace_of-op.ensures c.in-Err.ensures))
