use Rattle.std.proofs.Common.{◌≡◌, take}
use Rattle.md5_cache.specs.Record.{record_text}
use Rattle.md5_cache.proofs.write.record_text.Given as goal

-- the record of the eclasses so far
abbrev pub invariant-loop-i : goal.invariant-loop-i
invariant-loop-i l = l.text ≡ record_text (take l.i l.eclasses)
