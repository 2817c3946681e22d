use Rattle.std.proofs.Common.{ap, ◌∙◌}
use Rattle.std.specs.FinMap as map
use Rattle.std.specs.Cmp.Lexicographic.{nat_list_cmp_total}
use Rattle.std.specs.FinMap.{nat_cmp-IsAntisymmetric, slice_cmp-IsAntisymmetric}
use Rattle.eb_files.proofs.Ordered.{remove-ordered}
use Rattle.eb_files.proofs.store.Store.remove.Goals as goal

pub returns : goal.returns
returns c = remove-ordered nat_list_cmp_total (slice_cmp-IsAntisymmetric nat_cmp-IsAntisymmetric) _ _ _ c.remove.ensures.updates.0 ∙ ap (λ m. map.remove m c.args.path.now) c.self.view_is
