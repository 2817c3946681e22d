use Rattle.std.proofs.Common.{◌∙◌}
use Rattle.bash_braces.proofs.Joining.{joined_step}
use Rattle.bash_braces.proofs.words.join.Goals as goal

pub loop-word-preserved : goal.loop-word-preserved
loop-word-preserved c = joined_step c.loop-word.all c.append.new.self c.in-Some.word c.loop-word.before c.take_first.new.self c.args.after.now c.in_ok-share.field-0 c.in_ok-with_word.with_word c.in-Some.ensures c.in_ok-share.ensures c.in_ok-with_word.ensures c.in_ok-append.ensures ∙ c.loop-word.invariant
