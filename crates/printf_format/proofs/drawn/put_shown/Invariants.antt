use Rattle.std.proofs.Common.{◌≡◌, ◌++◌, take}
use Rattle.printf_format.specs.Fields.{shown}
use Rattle.printf_format.proofs.drawn.put_shown.Given as goal

abbrev pub invariant-loop-byte : goal.invariant-loop-byte
invariant-loop-byte l = l.to ≡ l.fn.to ++ shown (take l.byte-index l.text)
