use Rattle.std.proofs.Common.{◌≡◌, ℕ, ◌<◌, slice_index, vec_len}
use Rattle.bash_patterns.specs.Pattern.{meaning}
use Rattle.bash_params.specs.Case.{changed}
use Rattle.bash_params.proofs.case.table_of.Given as goal

abbrev pub invariant-loop-byte : goal.invariant-loop-byte
invariant-loop-byte l = record {
  size : vec_len l.table ≡ l.byte;
  entries : (b : ℕ) → b < l.byte → slice_index l.table.items b ≡ changed l.case (meaning l.pattern) b;
}
