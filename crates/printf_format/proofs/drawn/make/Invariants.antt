use Rattle.std.proofs.Common.{◌≡◌, ◌++◌, drop}
use Rattle.printf_format.specs.Texts.{whole_text}
use Rattle.printf_format.proofs.drawn.make.Given as goal

abbrev pub invariant-loop-run : goal.invariant-loop-run
invariant-loop-run l = l.text.items ++ whole_text (drop l.run-index l.runs) l.tail ≡ whole_text l.runs l.tail
