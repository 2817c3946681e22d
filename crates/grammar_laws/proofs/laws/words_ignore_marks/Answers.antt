use Rattle.grammar_laws.proofs.IgnoreClosed.{each}
use Rattle.grammar_laws.proofs.laws.words_ignore_marks.Goals as goal

pub returns : goal.returns
returns c = each
