use Rattle.std.proofs.Common.{◌≡◌, ◌+◌, ◌-◌, ◌^◌, ◌≤◌, vec_items}
use Rattle.std.specs.Prelude.{min, sum_by}
use Rattle.shell_vars.specs.Store.{binding_size, names_size}
use Rattle.shell_vars.proofs.Keyed.{keyed}
use Rattle.shell_vars.proofs.names.Names.size.Given as goal

abbrev pub invariant-loop-name : goal.invariant-loop-name
invariant-loop-name l = record {
  counted : min (l.total + sum_by binding_size (keyed vec_items l.name-iterator)) (2 ^ 64 - 1) ≡ min (names_size l.self) (2 ^ 64 - 1);
  fits : l.total ≤ 2 ^ 64 - 1;
}
