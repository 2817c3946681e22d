use Rattle.std.proofs.Common.{◌≡◌, ◌-◌, ◌≤◌, length}
use Rattle.std.specs.List.{range_with_len}
use Rattle.bash_braces.specs.Reading.{read}
use Rattle.bash_braces.specs.Symbols.{at}
use Rattle.bash_braces.proofs.reading.made.Given as goal

abbrev pub invariant-loop-left : goal.invariant-loop-left
invariant-loop-left g l = record {
  within : l.left ≤ length l.tokens;
  reading : l.reading ≡ read g.V.Value.values (at l.tokens) (range_with_len l.left (length l.tokens - l.left));
}

abbrev pub decreases-loop-left : goal.decreases-loop-left
decreases-loop-left g l = l.left
