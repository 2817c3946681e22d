use Rattle.std.proofs.Common.{◌≡◌, length, map}
use Rattle.eb_bytes.specs.Text.{lines}
use Rattle.egencache.specs.Seen.{assigned}
use Rattle.egencache.proofs.LinesRead.{AreRead}
use Rattle.egencache.proofs.assignments.read_assignments.Given as goal

abbrev pub invariant-loop-line : goal.invariant-loop-line
invariant-loop-line l = record {
  can : (goal.iterator-loop-line).can_next l.line-iterator;
  finite : (goal.iterator-loop-line).is_finite l.line-iterator;
  count : l.number ≡ length l.yielded;
  read : AreRead (lines l.text) (map assigned l.list.items) l.number;
}
