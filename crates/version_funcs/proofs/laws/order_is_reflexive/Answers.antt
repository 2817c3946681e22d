use Rattle.version_funcs.proofs.Keys.{order_reflexive}
use Rattle.version_funcs.proofs.laws.order_is_reflexive.Goals as goal

pub returns : goal.returns
returns c = order_reflexive
