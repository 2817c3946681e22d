use Rattle.std.proofs.Common.{◌≡◌, ◌++◌, drop}
use Rattle.bash_split.specs.Fields.{fields}
use Rattle.bash_split.specs.Pass.{fields_left}
use Rattle.bash_split.proofs.fields.split.Given as goal

abbrev pub invariant-loop-mark : goal.invariant-loop-mark
invariant-loop-mark l = l.ended.items ++ fields_left l.ifs l.place (drop l.mark-index l.mark-items) ≡ fields l.ifs l.mark-items
