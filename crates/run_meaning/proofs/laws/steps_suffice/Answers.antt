use Rattle.run_meaning.proofs.RunsKept.{steps_suffice}
use Rattle.run_meaning.proofs.laws.steps_suffice.Goals as goal

pub returns : goal.returns
returns c = steps_suffice
