use Rattle.std.specs.Option.{option_copied}
use Rattle.md5_cache.proofs.ReadRecord.{AreRead, size_left}
use Rattle.md5_cache.proofs.eclasses.read_record.Given as goal

-- what was read, and where the record goes on, what is left
abbrev pub invariant-loop-rest : goal.invariant-loop-rest
invariant-loop-rest l = AreRead l.text l.eclasses.items (option_copied l.rest)

abbrev pub decreases-loop-rest : goal.decreases-loop-rest
decreases-loop-rest l = size_left (option_copied l.rest)
