use Rattle.std.proofs.Common.{refl}
use Rattle.ebuild_names.proofs.Paths.{exact_paths, paths_total}
use Rattle.ebuild_names.proofs.laws.paths_order_by_their_parts.Goals as goal

pub returns-clause-order : goal.returns-clause-order
returns-clause-order c = refl

pub returns-clause-total : goal.returns-clause-total
returns-clause-total c = paths_total

pub returns-clause-exact : goal.returns-clause-exact
returns-clause-exact c = exact_paths
