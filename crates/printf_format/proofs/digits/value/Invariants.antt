use Rattle.std.proofs.Common.{◌≡◌, ◌<◌, ◌^◌, drop}
use Rattle.printf_format.specs.Digits.{value_from}
use Rattle.printf_format.proofs.digits.value.Given as goal

abbrev pub invariant-loop-digit : goal.invariant-loop-digit
invariant-loop-digit l = record {
  value : value_from l.radix l.value (drop l.digit-index l.digits) ≡ value_from l.radix 0 l.digits;
  fits : l.value < 2 ^ 64;
}
