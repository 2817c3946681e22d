use Rattle.ebuild_names.proofs.BadKind.{bad_kind-none, bad_kind-some}
use Rattle.ebuild_names.proofs.laws.bad_kind_is_the_first_bad_part.Goals as goal

pub returns-clause-bad : goal.returns-clause-bad
returns-clause-bad c = bad_kind-some

pub returns-clause-none : goal.returns-clause-none
returns-clause-none c = bad_kind-none
