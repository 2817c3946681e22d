-- The order of paths is total, and paths that it calls equal are one.
use Rattle.std.proofs.Common.{ap}
use Rattle.std.specs.Cmp.{IsTotalOrder}
use Rattle.std.specs.Cmp.Lexicographic.{slice_cmp}
use Rattle.std.specs.Ordering.{nat_cmp, ordering_then}
use Rattle.std.proofs.lemmas.Cmp.{nat_list_cmp_total, on_total, then_total}
use Rattle.std.proofs.lemmas.Map.Lookups.{CmpEqualImpliesEq, exact_bytes, exact_pairs}
use Rattle.eb_bytes.specs.Text.{Text}
use Rattle.ebuild_names.specs.Path.{path_order}

pub paths_total : IsTotalOrder path_order
paths_total = then_total (on_total (λ at. at.category) nat_list_cmp_total) (then_total (on_total (λ at. at.«package») nat_list_cmp_total) (on_total (λ at. at.file) nat_list_cmp_total))

pub exact_paths : CmpEqualImpliesEq path_order
exact_paths a b h =
    ap (λ (p : Text × (Text × Text)). record { category = p.0; «package» = p.1.0; file = p.1.1 })
    (exact_pairs (slice_cmp nat_cmp) (λ (x y : Text × Text). ordering_then (slice_cmp nat_cmp x.0 y.0) (slice_cmp nat_cmp x.1 y.1)) exact_bytes (exact_pairs (slice_cmp nat_cmp) (slice_cmp nat_cmp) exact_bytes exact_bytes)
    (a.category, (a.«package», a.file)) (b.category, (b.«package», b.file)) h)
