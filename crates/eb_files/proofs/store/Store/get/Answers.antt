use Rattle.std.proofs.Common.{ap, ◌∙◌}
use Rattle.std.specs.FinMap as map
use Rattle.std.specs.Cmp.Lexicographic.{nat_list_cmp_total}
use Rattle.eb_files.proofs.Ordered.{get-ordered}
use Rattle.eb_files.proofs.store.Store.get.Goals as goal

pub returns : goal.returns
returns c = c.get.ensures.value ∙ get-ordered nat_list_cmp_total _ _ ∙ ap (λ m. map.get m c.args.path.now) c.self.view_is
