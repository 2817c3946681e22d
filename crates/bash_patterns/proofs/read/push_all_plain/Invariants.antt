use Rattle.std.proofs.Common.{◌≡◌, ◌++◌, map, take}
use Rattle.bash_patterns.specs.Joining.{languages}
use Rattle.bash_patterns.specs.Matching.{matches}
use Rattle.bash_patterns.specs.Reading.{plain}
use Rattle.bash_patterns.proofs.read.push_all_plain.Given as goal

abbrev pub invariant-loop-symbol : goal.invariant-loop-symbol
invariant-loop-symbol l = languages l.row.items ≡ languages l.initial.row.items ++ map (λ s. matches (plain s)) (take l.symbol-index l.symbols)
