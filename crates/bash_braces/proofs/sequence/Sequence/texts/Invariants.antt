use Rattle.std.proofs.Common.{◌≡◌, ◌++◌}
use Rattle.std.specs.Prelude.{◌+ℤ◌}
use Rattle.bash_braces.specs.Sequences.{falls, move, text, texts}
use Rattle.bash_braces.proofs.Stepping.{coming}
use Rattle.bash_braces.proofs.sequence.Sequence.texts.Given as goal

abbrev pub invariant-loop-left : goal.invariant-loop-left
invariant-loop-left l = record {
  texts : l.all.items ++ coming (text l.self.form) l.left l.step l.value (move (falls l.self) l.step) ≡ texts l.self;
  reached : l.value +ℤ move (falls l.self) l.left ≡ l.self.to;
}

abbrev pub decreases-loop-left : goal.decreases-loop-left
decreases-loop-left l = l.left
