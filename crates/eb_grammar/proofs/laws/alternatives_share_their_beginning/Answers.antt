use Rattle.eb_grammar.proofs.Repetition.{factor}
use Rattle.eb_grammar.proofs.laws.alternatives_share_their_beginning.Goals as goal

pub returns : goal.returns
returns g c = factor
