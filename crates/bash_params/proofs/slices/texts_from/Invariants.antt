use Rattle.std.proofs.Common.{◌≡◌, ◌++◌, take, Some}
use Rattle.std.specs.FinMap as map
use Rattle.bash_params.specs.Cut.{texts_from}
use Rattle.bash_params.proofs.slices.texts_from.Given as goal

-- with those that may still be taken of the elements that are left, the texts are all
abbrev pub invariant-loop-at : goal.invariant-loop-at
invariant-loop-at l = l.texts.items ++ take l.left (texts_from (Some l.start) l.at-iterator) ≡ take l.most (texts_from (Some l.start) (map.entries l.elements))
