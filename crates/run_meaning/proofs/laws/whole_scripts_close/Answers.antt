use Rattle.run_meaning.proofs.RunsClosed.{whole_scripts_close}
use Rattle.run_meaning.proofs.laws.whole_scripts_close.Goals as goal

pub returns : goal.returns
returns c = whole_scripts_close
