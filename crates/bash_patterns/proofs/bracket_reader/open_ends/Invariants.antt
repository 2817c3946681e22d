use Rattle.std.proofs.Common.{◌≡◌, ◌-◌, drop, length}
use Rattle.bash_patterns.specs.Bracketed.{open_ends}
use Rattle.bash_patterns.proofs.bracket_reader.open_ends.Given as goal

abbrev pub invariant-loop-count : goal.invariant-loop-count
invariant-loop-count l = l.ends.items ≡ open_ends (drop (length l.symbols - l.count) l.symbols)
