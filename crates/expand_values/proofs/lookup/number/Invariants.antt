use Rattle.std.proofs.Common.{drop}
use Rattle.std.specs.Str.Parse.{digits_value}
use Rattle.expand_values.specs.Digits.{LeadsTo}
use Rattle.expand_values.proofs.lookup.number.Given as goal

abbrev pub invariant-loop-digit : goal.invariant-loop-digit
invariant-loop-digit l = LeadsTo l.number (drop l.digit-index l.digits) (digits_value 10 l.digits)
