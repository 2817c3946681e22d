use Rattle.word_meaning.proofs.Lasting.{texts_last}
use Rattle.word_meaning.proofs.laws.texts_last.Goals as goal

pub returns : goal.returns
returns c = texts_last
