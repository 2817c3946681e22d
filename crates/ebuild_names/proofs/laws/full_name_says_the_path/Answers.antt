use Rattle.ebuild_names.proofs.Named.{full_name_has_one_path}
use Rattle.ebuild_names.proofs.Texts.{one_cut}
use Rattle.ebuild_names.proofs.laws.full_name_says_the_path.Goals as goal

pub returns-clause-cut : goal.returns-clause-cut
returns-clause-cut c = one_cut

pub returns-clause-path : goal.returns-clause-path
returns-clause-path c = full_name_has_one_path
