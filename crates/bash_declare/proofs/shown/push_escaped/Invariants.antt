use Rattle.std.proofs.Common.{◌≡◌, ◌++◌, drop}
use Rattle.std.specs.Prelude.{flat_map}
use Rattle.bash_declare.specs.Shown.{quoted_byte}
use Rattle.bash_declare.proofs.shown.push_escaped.Given as goal

abbrev pub invariant-loop-byte : goal.invariant-loop-byte
invariant-loop-byte l = l.fn.out ++ flat_map quoted_byte l.fn.text ≡ l.out ++ flat_map quoted_byte (drop l.byte-index l.text)
