use Rattle.word_meaning.proofs.Closed.{texts_close}
use Rattle.word_meaning.proofs.laws.texts_close.Goals as goal

pub returns : goal.returns
returns c = texts_close
