use Rattle.bash_lexer.proofs.BackTexts.{fits}
use Rattle.bash_lexer.proofs.back.short_text.Goals as goal

pub returns-clause-short : goal.returns-clause-short
returns-clause-short c = fits _ _ _ _ c.in_ok-text.ensures.0
