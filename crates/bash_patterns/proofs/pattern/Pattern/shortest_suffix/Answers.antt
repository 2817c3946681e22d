use Rattle.bash_patterns.specs.Form.{form_of}
use Rattle.bash_patterns.specs.Pattern.{meaning}
use Rattle.bash_patterns.proofs.Found.{shortest_end}
use Rattle.bash_patterns.proofs.pattern.Pattern.shortest_suffix.Goals as goal

pub returns : goal.returns
unfolding meaning
returns c = shortest_end (form_of c.args.self.now.root) c.args.text.now _ _ _ _ c.as_slice.ensures.value c.in_ok-ends.ensures c.first_true.ensures c.from_end.ensures
