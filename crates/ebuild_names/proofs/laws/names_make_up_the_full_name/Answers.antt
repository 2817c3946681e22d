use Rattle.ebuild_names.proofs.Named.{file_is_full_name, full_name_has_revision, full_name_has_version}
use Rattle.ebuild_names.proofs.laws.names_make_up_the_full_name.Goals as goal

pub returns-clause-file : goal.returns-clause-file
returns-clause-file c = file_is_full_name

pub returns-clause-version : goal.returns-clause-version
returns-clause-version c = full_name_has_version

pub returns-clause-revision : goal.returns-clause-revision
returns-clause-revision c = full_name_has_revision
