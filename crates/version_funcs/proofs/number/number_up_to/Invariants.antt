use Rattle.std.proofs.Common.{◌≡◌, min, map, take}
use Rattle.std.specs.Int.Digits.{number_from_digits}
use Rattle.version_funcs.specs.Number.{digit}
use Rattle.version_funcs.proofs.number.number_up_to.Given as goal

abbrev pub invariant-loop-digit : goal.invariant-loop-digit
invariant-loop-digit l = l.number ≡ min (number_from_digits 10 (take l.digit-index (map digit l.digits))) l.most
