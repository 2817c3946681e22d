use Rattle.std.proofs.Common.{◌≡◌, length}
use Rattle.bash_braces.specs.Reading.{after_commas}
use Rattle.bash_braces.proofs.reading.Level.plain.Given as goal

abbrev pub invariant-loop-other : goal.invariant-loop-other
invariant-loop-other g l = after_commas g.V.Value.values l.after l.others ≡ after_commas g.V.Value.values g.V.Value.values.nothing l.fn.self.others

abbrev pub decreases-loop-other : goal.decreases-loop-other
decreases-loop-other g l = length l.others
