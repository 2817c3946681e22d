use Rattle.std.proofs.Common.{◌≡◌, drop}
use Rattle.std.specs.Option.{option_map}
use Rattle.arith_syntax.specs.Constants.{digits_after, low}
use Rattle.arith_syntax.proofs.constant.any_digits.Given as goal

abbrev pub invariant-loop-byte : goal.invariant-loop-byte
invariant-loop-byte l =
    option_map low (digits_after l.base l.number (drop l.byte-index l.text)) ≡ option_map low (digits_after l.base 0 l.text)
