use Rattle.eb_grammar.proofs.Bodies.{owned}
use Rattle.eb_grammar.proofs.laws.items_own_their_marks.Goals as goal

pub returns : goal.returns
returns c = owned
