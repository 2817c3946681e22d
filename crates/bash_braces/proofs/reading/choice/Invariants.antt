use Rattle.std.proofs.Common.{◌≡◌, length}
use Rattle.bash_braces.specs.Reading.{choice}
use Rattle.bash_braces.proofs.reading.choice.Given as goal

abbrev pub invariant-loop-other : goal.invariant-loop-other
invariant-loop-other g l = choice g.V.Value.values l.all l.others ≡ choice g.V.Value.values l.fn.first l.fn.others

abbrev pub decreases-loop-other : goal.decreases-loop-other
decreases-loop-other g l = length l.others
