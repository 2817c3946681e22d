use Rattle.version_funcs.proofs.Splits.{joined-pieces}
use Rattle.version_funcs.proofs.laws.pieces_make_up_the_text.Goals as goal

pub returns : goal.returns
returns c = joined-pieces
