use Rattle.std.proofs.Common.{◌≡◌, ◌≤◌, ◌++◌, drop, length}
use Rattle.bash_params.specs.Replacement.{with_each}
use Rattle.bash_params.proofs.replacement.put_each.Given as goal

-- with what the matches that are left make of the rest of the text, the new text is whole
abbrev pub invariant-loop-begin : goal.invariant-loop-begin
invariant-loop-begin l = record {
  whole : l.new ++ with_each l.by l.text l.place (drop l.begin-index l.matches) ≡ with_each l.by l.text 0 l.matches;
  short : length l.new ≤ 1048576;
}
