use Rattle.std.proofs.Common.{rules}
use Rattle.std.proofs.lemmas.Fn.{filter_same}
use Rattle.eb_files.specs.Plans.{waits}
use Rattle.eb_files.proofs.plan.take_out_due.Goals as goal

pub returns : goal.returns
returns g c = filter_same _ waits _ (λ x b f' k. search rules) _ _ c.retain.ensures.filtered
