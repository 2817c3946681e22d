-- The order of names, which ties only equal ones.
use Rattle.std.proofs.Common.{nat_cmp}
use Rattle.std.specs.Cmp.Lexicographic.{slice_cmp}
use Rattle.std.specs.FinMap as map
use Rattle.std.specs.FinMap.{nat_cmp-IsAntisymmetric, slice_cmp-IsAntisymmetric}

pub apart : map.IsAntisymmetric (slice_cmp nat_cmp)
apart = slice_cmp-IsAntisymmetric nat_cmp-IsAntisymmetric
