-- The signed number that a text writes: a sign or none, then decimal digits, leading zeros allowed.
use Rattle.std.specs.Prelude.{ℤ, pos, negsuc, ◌^◌, Bool, ◌&&◌, Option, Some, None, if◌then◌else◌, nat_lt}
use Rattle.std.specs.List.{list_all}
use Rattle.std.specs.Str.Parse.{signed_digits_value, without_leading_sign}
use Rattle.byte_class.specs.Class.{is_digit}
use Rattle.eb_bytes.specs.Text.{Text, has_bytes}

-- one decimal digit or more, and nothing else
abbrev pub is_numeral : Text → Bool
is_numeral t = has_bytes t && list_all is_digit t

-- whether a number is within -2^63 .. 2^63 - 1
abbrev pub fits_64_bits : ℤ → Bool
fits_64_bits (pos n) = nat_lt n (2 ^ 63)
fits_64_bits (negsuc n) = nat_lt n (2 ^ 63)

-- the number of a text that is a sign or none and then digits, where 64 bits hold it
abbrev pub signed_number : Text → Option ℤ
signed_number t = if is_numeral (without_leading_sign t) && fits_64_bits (signed_digits_value 10 t) then Some (signed_digits_value 10 t) else None
