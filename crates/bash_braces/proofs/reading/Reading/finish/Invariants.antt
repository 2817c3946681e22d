use Rattle.std.proofs.Common.{◌≡◌, length}
use Rattle.bash_braces.specs.Reading.{after_closings}
use Rattle.bash_braces.proofs.reading.Reading.finish.Given as goal

abbrev pub invariant-loop-level : goal.invariant-loop-level
invariant-loop-level g l = after_closings g.V.Value.values l.after l.outer ≡ after_closings g.V.Value.values g.V.Value.values.nothing l.fn.self.outer

abbrev pub decreases-loop-level : goal.decreases-loop-level
decreases-loop-level g l = length l.outer
