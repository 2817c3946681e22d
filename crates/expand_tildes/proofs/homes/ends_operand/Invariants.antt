use Rattle.std.proofs.Common.{◌≡◌, drop, map}
use Rattle.word_meaning.specs.Tilde.{ends_tilde, operand_sign}
use Rattle.expand_tildes.proofs.homes.ends_operand.Given as goal

abbrev pub invariant-loop-part : goal.invariant-loop-part
invariant-loop-part l = ends_tilde l.tildes (map operand_sign (drop l.part-index l.parts)) ≡ ends_tilde l.tildes (map operand_sign l.parts)
