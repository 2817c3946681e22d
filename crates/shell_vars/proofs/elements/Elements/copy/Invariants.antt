use Rattle.std.proofs.Common.{◌≡◌}
use Rattle.std.specs.Prelude.{IsTrue}
use Rattle.std.specs.Cmp.{nat_cmp_total}
use Rattle.shell_vars.specs.Elements.{have_indices}
use Rattle.shell_vars.proofs.Ordered.{put_all}
use Rattle.shell_vars.proofs.elements.Elements.copy.Given as goal

-- with the entries that are left the copy is whole
abbrev pub invariant-loop-at : goal.invariant-loop-at
invariant-loop-at l = record { whole : put_all nat_cmp_total l.at-iterator l.copy ≡ l.self; indices : IsTrue (have_indices l.at-iterator) }
