use Rattle.std.proofs.Common.{◌≡◌, take}
use Rattle.bash_patterns.specs.Pattern.{meaning}
use Rattle.bash_params.specs.Case.{each_changed}
use Rattle.bash_params.proofs.case.each_changed.Given as goal

abbrev pub invariant-loop-byte : goal.invariant-loop-byte
invariant-loop-byte l = l.new ≡ each_changed l.fn.case (meaning l.fn.pattern) (take l.byte-index l.text)
