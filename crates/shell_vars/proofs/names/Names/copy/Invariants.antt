use Rattle.std.proofs.Common.{◌≡◌, vec_items}
use Rattle.std.specs.Cmp.Lexicographic.{nat_list_cmp_total}
use Rattle.shell_vars.proofs.Keyed.{keyed}
use Rattle.shell_vars.proofs.Ordered.{put_all}
use Rattle.shell_vars.proofs.names.Names.copy.Given as goal

-- with the entries that are left the copy is whole
abbrev pub invariant-loop-name : goal.invariant-loop-name
invariant-loop-name l = put_all nat_list_cmp_total (keyed vec_items l.name-iterator) l.copy ≡ l.self
