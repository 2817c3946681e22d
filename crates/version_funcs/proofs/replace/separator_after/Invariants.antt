use Rattle.std.proofs.Common.{◌≡◌, map, drop}
use Rattle.version_funcs.specs.Range.{separator_after}
use Rattle.version_funcs.specs.Seen.{seen_swap}
use Rattle.version_funcs.proofs.replace.separator_after.Given as goal

abbrev pub invariant-loop-swap : goal.invariant-loop-swap
invariant-loop-swap l = separator_after (map seen_swap (drop l.swap-index l.swaps)) l.place l.last l.current ≡ separator_after (map seen_swap l.swaps) l.place l.last l.separator
