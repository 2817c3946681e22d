use Rattle.std.proofs.Common.{◌≡◌, map, take}
use Rattle.bash_braces.specs.declared.symbol.Symbol.TheVariants.{Byte}
use Rattle.bash_braces.proofs.words.literal.Given as goal

abbrev pub invariant-loop-byte : goal.invariant-loop-byte
invariant-loop-byte l = l.word ≡ map Byte (take l.byte-index l.text)
