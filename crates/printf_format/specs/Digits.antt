-- Digits, and the numbers that they write.
use Rattle.std.specs.Prelude.{ℕ, ◌+◌, ◌*◌, ◌-◌, ◌^◌, Bool, ◌||◌, ◌&&◌, nat_le, nat_lt, Option, Some, None, [], ◌∷◌, take, if◌then◌else◌}
use Rattle.std.specs.List.{list_all, prefix_len}
use Rattle.byte_class.specs.Class.{is_digit}
use Rattle.eb_bytes.specs.Text.{Text, has_bytes}
use Rattle.printf_format.specs.declared.digits.Base.{Base}
use Rattle.printf_format.specs.declared.digits.Base.TheVariants.{Octal, Decimal, Hexadecimal}

abbrev pub radix : Base → ℕ
radix Octal = 8
radix Decimal = 10
radix Hexadecimal = 16

abbrev pub is_digit_of : Base → ℕ → Bool
is_digit_of Octal b = nat_le 48 b && nat_le b 55
is_digit_of Decimal b = is_digit b
is_digit_of Hexadecimal b = is_digit b || (nat_le 65 b && nat_le b 70) || (nat_le 97 b && nat_le b 102)

abbrev pub digit_value : ℕ → ℕ
digit_value b = if is_digit b then b - 48 else (if nat_le 97 b then b - 87 else b - 55)

-- the number that digits write after those that write `n`
abbrev pub value_from : ℕ → ℕ → Text → ℕ
value_from radix n [] = n
value_from radix n (d ∷ ds) = value_from radix (n * radix + digit_value d) ds

-- a number, where it is below a limit
abbrev pub below : ℕ → ℕ → Option ℕ
below limit n = if nat_lt n limit then Some n else None

-- the number that a text writes: one digit of the base or more, and nothing else, in 64 bits
abbrev pub number_in : Base → Text → Option ℕ
number_in base t =
    if has_bytes t && list_all (is_digit_of base) t then below (2 ^ 64) (value_from (radix base) 0 t) else None

-- how many digits a text begins with, of at most so many
abbrev pub digit_count : Base → ℕ → Text → ℕ
digit_count base most t = prefix_len (is_digit_of base) (take most t)
