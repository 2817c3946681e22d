use Rattle.grammar_laws.proofs.NoReadings.{numbers_differ}
use Rattle.grammar_laws.proofs.laws.numbers_differ.Goals as goal

pub returns : goal.returns
returns c = numbers_differ
