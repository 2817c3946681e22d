use Rattle.std.proofs.Common.{◌≡◌, ℕ, None, cond}
use Rattle.std.specs.FinMap as map
use Rattle.shell_vars.proofs.Join.{is_between}
use Rattle.shell_vars.proofs.elements.Elements.remove_between.Given as goal

abbrev pub invariant-loop-at : goal.invariant-loop-at
invariant-loop-at l = (q : ℕ) → map.get l.self q ≡ cond (is_between l.start l.at q) None (map.get l.initial.self q)
