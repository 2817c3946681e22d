use Rattle.std.proofs.Common.{◌≡◌, take}
use Rattle.arith_syntax.specs.Names.{without_quotes}
use Rattle.arith_syntax.proofs.quotes.copy_without_quotes.Given as goal

abbrev pub invariant-loop-byte : goal.invariant-loop-byte
invariant-loop-byte l = l.kept.items ≡ without_quotes (take l.byte-index l.text)
