use Rattle.std.proofs.Common.{◌≡◌, ◌≤◌, drop}
use Rattle.arith_syntax.specs.Constants.{digits_after}
use Rattle.arith_syntax.proofs.constant.number_to_64.Given as goal

abbrev pub invariant-loop-byte : goal.invariant-loop-byte
invariant-loop-byte l = record {
  small : l.number ≤ 64;
  goes_on : digits_after 10 l.number (drop l.byte-index l.text) ≡ digits_after 10 0 l.text;
}
