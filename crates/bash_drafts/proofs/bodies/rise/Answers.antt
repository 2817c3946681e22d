use Rattle.std.proofs.Common.{rules, of_calls}
use Rattle.bash_drafts.proofs.Rising.{rises}
use Rattle.bash_drafts.proofs.bodies.rise.Goals as goal

pub returns : goal.returns
returns c e = rises c.args.list.now c.is_sorted_by.result c.is_sorted_by.ensures.cases (λ h a s h' k. search (rules, of_calls)) e
