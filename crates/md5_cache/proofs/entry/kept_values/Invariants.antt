use Rattle.std.proofs.Common.{◌≡◌, take}
use Rattle.std.specs.List.{filter_map}
use Rattle.md5_cache.specs.Entry.{kept_value}
use Rattle.md5_cache.proofs.entry.kept_values.Given as goal

-- what is kept of the keys so far
abbrev pub invariant-loop-key : goal.invariant-loop-key
invariant-loop-key l = l.kept.items ≡ filter_map (kept_value l.values) (take l.key-index l.key-items)
