use Rattle.version_funcs.proofs.Keys.{order_transitive}
use Rattle.version_funcs.proofs.laws.order_is_transitive.Goals as goal

pub returns : goal.returns
returns c = order_transitive
