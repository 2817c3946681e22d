use Rattle.ebuild_names.proofs.Cuts.{match_further, begun, not_begun}
use Rattle.ebuild_names.proofs.path.after_prefix.Goals as goal

pub returns : goal.returns
returns c = match_further c.strip_prefix.result (λ no rest. not_begun c.args.prefix.now c.args.text.now rest no) (λ rest is. begun c.args.prefix.now c.args.text.now rest.now is.0 is.1) c.strip_prefix.ensures.cases
