use Rattle.std.proofs.Common.{◌≡◌, ◌+◌, ◌-◌, ◌^◌, ◌≤◌}
use Rattle.std.specs.Prelude.{min, sum_by}
use Rattle.shell_vars.specs.Elements.{element_size, elements_size}
use Rattle.shell_vars.proofs.elements.Elements.size.Given as goal

abbrev pub invariant-loop-text : goal.invariant-loop-text
invariant-loop-text l = record {
  counted : min (l.total + sum_by element_size l.text-iterator) (2 ^ 64 - 1) ≡ min (elements_size l.self) (2 ^ 64 - 1);
  fits : l.total ≤ 2 ^ 64 - 1;
}
