use Rattle.std.proofs.Common.{◌≡◌, drop}
use Rattle.bash_patterns.specs.Bracketed.{class_among}
use Rattle.bash_patterns.proofs.class.class_among.Given as goal

abbrev pub invariant-loop-class : goal.invariant-loop-class
invariant-loop-class l = class_among l.classes l.symbols ≡ class_among (drop l.class-index l.classes) l.symbols
