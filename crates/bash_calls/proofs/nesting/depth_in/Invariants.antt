use Rattle.std.proofs.Common.{◌≡◌, ◌≤◌, ◌+◌, drop}
use Rattle.shell_state.specs.Opening.{depth}
use Rattle.bash_calls.specs.Nesting.{kinds_of}
use Rattle.bash_calls.proofs.nesting.depth_in.Given as goal

abbrev pub invariant-loop-at : goal.invariant-loop-at
invariant-loop-at l = record {
  total : l.depth + depth (kinds_of (drop l.at l.layers.items)) ≡ depth (kinds_of l.layers.items);
  within : l.depth ≤ l.at;
}
