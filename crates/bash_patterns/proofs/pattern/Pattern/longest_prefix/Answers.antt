use Rattle.bash_patterns.specs.Form.{form_of}
use Rattle.bash_patterns.specs.Pattern.{meaning}
use Rattle.bash_patterns.proofs.Found.{longest_front}
use Rattle.bash_patterns.proofs.pattern.Pattern.longest_prefix.Goals as goal

pub returns : goal.returns
unfolding meaning
returns c = longest_front (form_of c.args.self.now.root) c.args.text.now _ _ _ c.as_slice.ensures.value c.in_ok-fronts.ensures c.last_true.ensures
