-- A number that is read digit by digit.
use Rattle.std.specs.Prelude.{◌≡◌, ℕ, ◌≤◌, ◌^◌, List, Option, Some, None}
use Rattle.std.specs.Str.Parse.{digits_value_after}

-- what is read so far leads to the whole number with the digits that are left; none, where that is 2^64 or more
abbrev pub LeadsTo : Option ℕ → (left : List ℕ) → (whole : ℕ) → Type 0
LeadsTo (Some n) ds whole = digits_value_after 10 n ds ≡ whole
LeadsTo None ds whole = 2 ^ 64 ≤ whole
