use Rattle.bash_patterns.specs.Form.{form_of}
use Rattle.bash_patterns.specs.Pattern.{meaning}
use Rattle.bash_patterns.proofs.Found.{longest_end}
use Rattle.bash_patterns.proofs.pattern.Pattern.longest_suffix.Goals as goal

pub returns : goal.returns
unfolding meaning
returns c = longest_end (form_of c.args.self.now.root) c.args.text.now _ _ _ _ c.as_slice.ensures.value c.in_ok-ends.ensures c.last_true.ensures c.from_end.ensures
