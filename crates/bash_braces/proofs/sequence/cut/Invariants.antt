use Rattle.std.proofs.Common.{◌≡◌, take, drop}
use Rattle.bash_braces.specs.Sequences.{cut}
use Rattle.bash_braces.proofs.Cutting.{onto_all}
use Rattle.bash_braces.proofs.sequence.cut.Given as goal

abbrev pub invariant-loop-index : goal.invariant-loop-index
invariant-loop-index l = onto_all (take l.index l.text) (cut (drop l.index l.text)) ≡ cut l.text
