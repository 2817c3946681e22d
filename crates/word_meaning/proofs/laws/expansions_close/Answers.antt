use Rattle.word_meaning.proofs.Closed.{expansions_close}
use Rattle.word_meaning.proofs.laws.expansions_close.Goals as goal

pub returns : goal.returns
returns c = expansions_close
