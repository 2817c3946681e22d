use Rattle.run_meaning.proofs.RunsKept.{steps_suffice_for_scripts}
use Rattle.run_meaning.proofs.laws.steps_suffice_for_a_script.Goals as goal

pub returns : goal.returns
returns c = steps_suffice_for_scripts
