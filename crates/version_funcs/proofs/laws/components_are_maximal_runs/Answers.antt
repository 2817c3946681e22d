use Rattle.version_funcs.proofs.Maximal.{maximal-pieces, separator-first}
use Rattle.version_funcs.proofs.laws.components_are_maximal_runs.Goals as goal

pub returns-clause-first : goal.returns-clause-first
returns-clause-first c = separator-first

pub returns-clause-rest : goal.returns-clause-rest
returns-clause-rest c = maximal-pieces
