use Rattle.word_meaning.proofs.Lasting.{fields_last}
use Rattle.word_meaning.proofs.laws.fields_last.Goals as goal

pub returns : goal.returns
returns c = fields_last
