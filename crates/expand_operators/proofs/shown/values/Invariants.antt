use Rattle.std.proofs.Common.{◌≡◌, ◌++◌, map}
use Rattle.std.specs.FinMap as finite
use Rattle.expand_operators.proofs.shown.values.Given as goal

-- what is put, and what is left, are all
abbrev pub invariant-loop-text : goal.invariant-loop-text
invariant-loop-text l = l.texts ++ map (λ e. e.1) l.text-iterator ≡ finite.values l.elements
