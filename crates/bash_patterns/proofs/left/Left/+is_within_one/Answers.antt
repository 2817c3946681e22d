use Rattle.bash_patterns.specs.Left.{left_form}
use Rattle.bash_patterns.proofs.Alternatives.{within_later, within_next}
use Rattle.bash_patterns.proofs.left.Left.+is_within_one.Goals as goal

pub returns-then-is_within : goal.returns-then-is_within
returns-then-is_within t c = λ h way. within_next way (left_form way c.args.self.now) c.args.others.now _ c.in-len1-up.len_at_least c.other-item.is (c.is_within.ensures h way)

pub returns-else-is_within : goal.returns-else-is_within
returns-else-is_within t c = λ h way. within_later way (left_form way c.args.self.now) c.args.others.now (c.is_within_one.ensures h way)
