use Rattle.std.specs.Prelude.{All, Contains}
use Rattle.eb_digest.specs.Digest.{IsDigest}
use Rattle.md5_cache.specs.Record.{HasOneMd5}
use Rattle.md5_cache.proofs.record.map_of.Given as goal

-- the map holds the eclasses so far and no others, and each MD5 in it is a digest
abbrev pub invariant-loop-name : goal.invariant-loop-name
invariant-loop-name l =
    All (Contains l.yielded) l.map.entries
    × ((HasOneMd5 l.yielded → All (Contains l.map.entries) l.yielded) × All (λ eclass. IsDigest eclass.1) l.map.entries)
