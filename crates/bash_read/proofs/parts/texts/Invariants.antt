use Rattle.std.proofs.Common.{◌≡◌, ◌-◌, ◌++◌}
use Rattle.bash_read.specs.Parts.{texts_for}
use Rattle.bash_read.proofs.parts.texts.Given as goal

abbrev pub invariant-loop-name : goal.invariant-loop-name
invariant-loop-name l = l.texts.items ++ texts_for l.ifs (l.others - l._name) l.rest ≡ texts_for l.ifs l.others l.marks
