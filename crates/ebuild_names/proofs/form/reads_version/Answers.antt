use Rattle.ebuild_names.proofs.Ends.{version_test}
use Rattle.ebuild_names.proofs.form.reads_version.Goals as goal

pub returns : goal.returns
returns c = version_test c.args.text.now c.read_version.result c.read_version.ensures
