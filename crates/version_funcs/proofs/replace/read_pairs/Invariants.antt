use Rattle.std.proofs.Common.{◌≡◌, ◌+◌, ◌++◌, map, length}
use Rattle.std.specs.Option.{option_map}
use Rattle.version_funcs.specs.Range.{replacements}
use Rattle.version_funcs.specs.Seen.{clamped_each, seen_swap}
use Rattle.version_funcs.proofs.replace.read_pairs.Given as goal

abbrev pub invariant-loop-rest : goal.invariant-loop-rest
invariant-loop-rest l = option_map (λ left. map seen_swap l.swaps.items ++ clamped_each (l.length + 1) left) (replacements l.rest) ≡ option_map (clamped_each (l.length + 1)) (replacements l.pairs)

abbrev pub decreases-loop-rest : goal.decreases-loop-rest
decreases-loop-rest l = length l.rest
