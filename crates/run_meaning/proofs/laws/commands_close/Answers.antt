use Rattle.run_meaning.proofs.RunsClosed.{commands_close}
use Rattle.run_meaning.proofs.laws.commands_close.Goals as goal

pub returns : goal.returns
returns c = commands_close
