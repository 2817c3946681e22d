use Rattle.run_meaning.proofs.RunsKept.{names_asked_determine_scripts}
use Rattle.run_meaning.proofs.laws.names_asked_determine_a_script.Goals as goal

pub returns : goal.returns
returns c = names_asked_determine_scripts
