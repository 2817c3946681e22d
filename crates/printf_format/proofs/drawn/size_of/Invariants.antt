use Rattle.std.proofs.Common.{◌≡◌, ◌+◌, [], drop, length}
use Rattle.printf_format.specs.Texts.{whole_text}
use Rattle.printf_format.proofs.drawn.size_of.Given as goal

abbrev pub invariant-loop-run : goal.invariant-loop-run
invariant-loop-run l = l.size + length (whole_text (drop l.run-index l.runs) []) ≡ length (whole_text l.runs l.tail) + 1
