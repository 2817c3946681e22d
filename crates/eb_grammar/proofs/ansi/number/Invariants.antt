use Rattle.std.proofs.Common.{◌≡◌, ◌%◌, drop}
use Rattle.eb_grammar.specs.AnsiText.{value_from}
use Rattle.eb_grammar.proofs.ansi.number.Given as goal

abbrev pub invariant-loop-digit : goal.invariant-loop-digit
invariant-loop-digit l = value_from l.radix l.number (drop l.digit-index l.digits) % 256 ≡ value_from l.radix 0 l.digits % 256
