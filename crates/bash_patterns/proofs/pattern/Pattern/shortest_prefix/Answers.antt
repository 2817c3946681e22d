use Rattle.bash_patterns.specs.Form.{form_of}
use Rattle.bash_patterns.specs.Pattern.{meaning}
use Rattle.bash_patterns.proofs.Found.{shortest_front}
use Rattle.bash_patterns.proofs.pattern.Pattern.shortest_prefix.Goals as goal

pub returns : goal.returns
unfolding meaning
returns c = shortest_front (form_of c.args.self.now.root) c.args.text.now _ _ _ c.as_slice.ensures.value c.in_ok-fronts.ensures c.first_true.ensures
