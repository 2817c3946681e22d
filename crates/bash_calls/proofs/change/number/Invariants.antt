use Rattle.std.proofs.Common.{◌≡◌, min, take}
use Rattle.bash_calls.specs.Redirections.{number}
use Rattle.bash_calls.proofs.change.number.Given as goal

-- the number of the digits so far
abbrev pub invariant-loop-digit : goal.invariant-loop-digit
invariant-loop-digit l = l.value ≡ min 3 (number (take l.digit-index l.digits))
