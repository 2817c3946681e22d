use Rattle.run_meaning.proofs.RunsKept.{scripts_keep}
use Rattle.run_meaning.proofs.laws.a_script_keeps_steps_and_names.Goals as goal

pub returns : goal.returns
returns c = scripts_keep
