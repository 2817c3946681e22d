use Rattle.version_funcs.proofs.Unambiguous.{unambiguous}
use Rattle.version_funcs.proofs.laws.text_spells_one_version.Goals as goal

pub returns : goal.returns
returns c = unambiguous
