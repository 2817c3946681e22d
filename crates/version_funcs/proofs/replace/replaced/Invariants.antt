use Rattle.std.proofs.Common.{◌≡◌, ◌+◌, ◌++◌, map, drop}
use Rattle.version_funcs.specs.Pieces.{joined, joined_rest, pieces}
use Rattle.version_funcs.specs.Range.{replaced, replaced_rest}
use Rattle.version_funcs.specs.Seen.{seen_piece, seen_swap}
use Rattle.version_funcs.proofs.replace.replaced.Given as goal

abbrev pub invariant-loop-index : goal.invariant-loop-index
invariant-loop-index l = l.text ++ joined_rest (replaced_rest (map seen_swap l.swaps) (l.index + 1) l.last (map seen_piece (drop l.index l.part-items))) ≡ joined (replaced (map seen_swap l.swaps) (pieces l.v))
