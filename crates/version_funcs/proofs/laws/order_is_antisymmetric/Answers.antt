use Rattle.version_funcs.proofs.Keys.{order_antisymmetric}
use Rattle.version_funcs.proofs.laws.order_is_antisymmetric.Goals as goal

pub returns : goal.returns
returns c = order_antisymmetric
