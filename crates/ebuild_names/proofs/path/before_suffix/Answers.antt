use Rattle.ebuild_names.proofs.Cuts.{match_further, ended, not_ended}
use Rattle.ebuild_names.proofs.path.before_suffix.Goals as goal

pub returns : goal.returns
returns c = match_further c.strip_suffix.result (λ no rest. not_ended c.args.suffix.now c.args.text.now rest no) (λ rest is. ended c.args.suffix.now c.args.text.now rest.now is.0 is.1) c.strip_suffix.ensures.cases
