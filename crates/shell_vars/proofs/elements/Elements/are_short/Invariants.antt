use Rattle.std.proofs.Common.{◌≡◌}
use Rattle.std.specs.List.{list_all}
use Rattle.std.specs.FinMap as map
use Rattle.shell_vars.specs.Value.{is_short}
use Rattle.shell_vars.proofs.elements.Elements.are_short.Given as goal

abbrev pub invariant-loop-text : goal.invariant-loop-text
invariant-loop-text l = list_all (λ e. is_short e.1) l.text-iterator ≡ list_all (λ e. is_short e.1) (map.entries l.self)
