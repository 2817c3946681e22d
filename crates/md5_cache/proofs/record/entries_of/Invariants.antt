use Rattle.std.proofs.Common.{◌≡◌}
use Rattle.md5_cache.proofs.record.entries_of.Given as goal

abbrev pub invariant-loop-name : goal.invariant-loop-name
invariant-loop-name l = l.list.items ≡ l.yielded
