use Rattle.std.proofs.Common.{◌∙◌}
use Rattle.bash_patterns.specs.Form.{form_of}
use Rattle.bash_patterns.proofs.Found.{decided}
use Rattle.bash_patterns.proofs.pattern.+decide.Goals as goal

pub returns-in_ok-ends-in_default : goal.returns-in_ok-ends-in_default
returns-in_ok-ends-in_default t c = c.value_at.ensures ∙ decided (form_of c.args.node.now) c.args.text.now _ _ c.as_slice.ensures.value c.in_ok-ends-in_default.ensures
