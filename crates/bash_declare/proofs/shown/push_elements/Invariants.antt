use Rattle.std.proofs.Common.{◌≡◌, ◌++◌, true}
use Rattle.std.specs.FinMap as map
use Rattle.bash_declare.specs.Shown.{elements_shown}
use Rattle.bash_declare.proofs.shown.push_elements.Given as goal

abbrev pub invariant-loop-at : goal.invariant-loop-at
invariant-loop-at l =
    l.fn.out ++ elements_shown true (map.entries l.fn.elements) ≡ l.out ++ elements_shown l.is_first l.at-iterator
