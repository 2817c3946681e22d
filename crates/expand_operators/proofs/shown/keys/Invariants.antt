use Rattle.std.proofs.Common.{◌≡◌, ◌++◌, map, decimal}
use Rattle.std.specs.FinMap as finite
use Rattle.expand_operators.proofs.shown.keys.Given as goal

-- what is put, and what is left, are all
abbrev pub invariant-loop-index : goal.invariant-loop-index
invariant-loop-index l = l.texts ++ map (λ e. decimal e.0) l.index-iterator ≡ map decimal (finite.keys l.elements)
