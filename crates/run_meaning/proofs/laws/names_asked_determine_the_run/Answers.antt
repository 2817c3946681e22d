use Rattle.run_meaning.proofs.RunsKept.{names_asked_determine}
use Rattle.run_meaning.proofs.laws.names_asked_determine_the_run.Goals as goal

pub returns : goal.returns
returns c = names_asked_determine
