use Rattle.word_meaning.proofs.Lasting.{elements_last}
use Rattle.word_meaning.proofs.laws.elements_last.Goals as goal

pub returns : goal.returns
returns c = elements_last
