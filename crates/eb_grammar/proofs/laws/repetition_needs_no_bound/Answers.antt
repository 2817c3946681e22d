use Rattle.eb_grammar.proofs.Repetition.{enough}
use Rattle.eb_grammar.proofs.laws.repetition_needs_no_bound.Goals as goal

pub returns : goal.returns
returns g c = enough
