use Rattle.word_meaning.proofs.Lasting.{words_last}
use Rattle.word_meaning.proofs.laws.words_last.Goals as goal

pub returns : goal.returns
returns c = words_last
