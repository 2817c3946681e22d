use Rattle.std.proofs.Common.{◌≡◌, ℕ, ◌<◌, false, drop, length}
use Rattle.std.specs.Prelude.{◌||◌, slice_index_or}
use Rattle.bash_split.specs.Fields.{has_byte}
use Rattle.bash_split.proofs.role.table_of.Given as goal

abbrev pub invariant-loop-byte : goal.invariant-loop-byte
invariant-loop-byte l = record {
  size : length l.table ≡ 256;
  entries : (b : ℕ) → b < 256 → (slice_index_or l.table b false || has_byte (drop l.byte-index l.bytes) b) ≡ has_byte l.bytes b;
}
