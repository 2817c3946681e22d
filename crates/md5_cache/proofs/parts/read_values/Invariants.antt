use Rattle.std.proofs.Common.{length}
use Rattle.md5_cache.proofs.ReadValues.{AreRead}
use Rattle.md5_cache.proofs.parts.read_values.Given as goal

-- what was read, and what is left
abbrev pub invariant-loop-line : goal.invariant-loop-line
invariant-loop-line l = AreRead l.text l.values.items l.rest

abbrev pub decreases-loop-line : goal.decreases-loop-line
decreases-loop-line l = length l.rest
