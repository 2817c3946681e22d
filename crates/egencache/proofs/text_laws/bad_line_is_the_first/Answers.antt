use Rattle.egencache.proofs.PlainTexts.{none-iff_plain, first_bad}
use Rattle.egencache.proofs.text_laws.bad_line_is_the_first.Goals as goal

pub returns-clause-plain : goal.returns-clause-plain
returns-clause-plain c = none-iff_plain

pub returns-clause-first : goal.returns-clause-first
returns-clause-first c = first_bad
