use Rattle.std.proofs.Common.{◌≡◌, ◌+◌, ◌≤◌, ◌^◌, ℕ, false, length}
use Rattle.std.specs.FinMap as map
use Rattle.shell_vars.specs.Elements.{joined, put_from}
use Rattle.shell_vars.proofs.Join.{is_between}
use Rattle.shell_vars.proofs.elements.Elements.join.Given as goal

abbrev pub invariant-loop-text : goal.invariant-loop-text
invariant-loop-text l = record {
  whole : put_from l.at l.text-iterator l.self ≡ joined l.fn.self l.fn.more;
  outside : (q : ℕ) → is_between l.start l.at q ≡ false → map.get l.self q ≡ map.get l.fn.self q;
  after : l.start ≤ l.at;
  within : l.at + length l.text-iterator ≤ 2 ^ 63;
}
