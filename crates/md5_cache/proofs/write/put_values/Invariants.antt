use Rattle.std.proofs.Common.{◌≡◌, ◌++◌, take}
use Rattle.std.specs.List.{flat_map}
use Rattle.md5_cache.specs.Entry.{value_line}
use Rattle.md5_cache.proofs.write.put_values.Given as goal

-- the lines of the values so far
abbrev pub invariant-loop-value : goal.invariant-loop-value
invariant-loop-value l = l.out ≡ l.initial.out ++ flat_map value_line (take l.value-index l.values)
