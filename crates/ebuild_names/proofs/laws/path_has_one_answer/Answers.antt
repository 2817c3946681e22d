use Rattle.ebuild_names.proofs.Named.{bad_is_one, named_not_bad, names_are_one}
use Rattle.ebuild_names.proofs.laws.path_has_one_answer.Goals as goal

pub returns-clause-names : goal.returns-clause-names
returns-clause-names c = names_are_one

pub returns-clause-not_both : goal.returns-clause-not_both
returns-clause-not_both c = named_not_bad

pub returns-clause-bad : goal.returns-clause-bad
returns-clause-bad c = bad_is_one
