-- Numbers in decimal digits, of any length.
use Rattle.std.specs.Prelude.{ℕ, ◌-◌, map}
use Rattle.std.specs.Int.Digits.{number_from_digits}
use Rattle.std.specs.Ordering.{nat_cmp}
use Rattle.std.specs.declared.cmp.Ordering.{Ordering}
use Rattle.eb_bytes.specs.Text.{Text}

-- the number of a digit
abbrev pub digit : ℕ → ℕ
digit b = b - 48

-- the number that decimal digits write, with any number of leading zeros; without digits it is 0
abbrev pub number : Text → ℕ
number digits = number_from_digits 10 (map digit digits)

-- by the numbers that the digits write
abbrev pub number_order : Text → Text → Ordering
number_order a b = nat_cmp (number a) (number b)
