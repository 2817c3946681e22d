use Rattle.std.proofs.Common.{◌≡◌, subst, ◌∙◌}
use Rattle.bash_cond.specs.Reading.{read_of}
use Rattle.bash_cond.specs.Verdict.{Gives}
use Rattle.bash_cond.proofs.Ruled.{all_read}
use Rattle.bash_cond.proofs.test_rules.some_args.Goals as goal

pub returns : goal.returns
returns c =
    subst (λ v. Gives c.told.result v)
    (c.whole.ensures ∙ all_read c.args.vars.now.present c.args.args.now (read_of c.or_words-read.result) c.requires c.or_words-read.ensures.means)
    c.told.ensures
