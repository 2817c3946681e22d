-- Constants (Bash Reference Manual, "Shell Arithmetic": octal, hexadecimal and `base#n`).
use Rattle.std.specs.Prelude.{ℕ, ℤ, pos, ◌+◌, ◌-◌, ◌*◌, ◌%◌, ◌^◌, Bool, ◌==◌, ◌||◌, ◌&&◌, not, nat_le, nat_lt, nat_eq, [], ◌∷◌, take, drop, Option, Some, None, if◌then◌else◌, codes}
use Rattle.std.specs.Int.{int_wrap, w64}
use Rattle.std.specs.List.{prefix_len, list_any, starts_with}
use Rattle.std.specs.Option.{option_map, option_and_then}
use Rattle.byte_class.specs.Class.{is_digit, is_lower, is_upper, is_name_byte}
use Rattle.eb_bytes.specs.Text.{Text}

-- what may stand in a constant: digits, letters, `_`, `@` and `#`
abbrev pub is_constant_byte : ℕ → Bool
is_constant_byte b = is_name_byte b || b == 64 || b == 35

-- what a digit counts: 0 to 9, then the letters, and after them `@` and `_`; capitals are letters of their own only in a
-- base above 36
abbrev pub digit_value : ℕ → ℕ → Option ℕ
digit_value base b =
    if is_digit b then Some (b - 48)
    else (if is_lower b then Some (b - 87)
    else (if is_upper b then Some (if nat_le base 36 then b - 55 else b - 29)
    else (if b == 64 then Some 62 else (if b == 95 then Some 63 else None))))

-- a digit of a base counts less than the base
abbrev pub is_below : ℕ → ℕ → Option ℕ
is_below base d = if nat_lt d base then Some d else None

abbrev pub digit_of : ℕ → ℕ → Option ℕ
digit_of base b = option_and_then (is_below base) (digit_value base b)

-- the number that digits write after those that write `n`; none, where one of them is no digit of the base
abbrev pub digits_after : ℕ → ℕ → Text → Option ℕ
digits_after base n [] = Some n
digits_after base n (b ∷ t) = option_and_then (λ d. digits_after base (n * base + d) t) (digit_of base b)

-- the number that at least one digit writes
abbrev pub digits : ℕ → Text → Option ℕ
digits base [] = None
digits base (b ∷ t) = digits_after base 0 (b ∷ t)

abbrev pub is_base : ℕ → Option ℕ
is_base n = if nat_le 2 n && nat_le n 64 then Some n else None

abbrev pub at_most_64 : ℕ → Option ℕ
at_most_64 n = if nat_le n 64 then Some n else None

-- a base is a decimal number from 2 to 64 that does not begin with 0
abbrev pub base_of : Text → Option ℕ
base_of [] = None
base_of (b ∷ t) = if b == 48 then None else option_and_then is_base (digits 10 (b ∷ t))

abbrev pub is_hash : ℕ → Bool
is_hash b = b == 35

abbrev pub before_hash : Text → Text
before_hash w = take (prefix_len (λ b. not (is_hash b)) w) w

abbrev pub after_hash : Text → Text
after_hash w = drop (prefix_len (λ b. not (is_hash b)) w + 1) w

-- `base#digits`
abbrev pub based : Text → Option ℕ
based w = option_and_then (λ base. digits base (after_hash w)) (base_of (before_hash w))

abbrev pub is_hexadecimal : Text → Bool
is_hexadecimal w = starts_with nat_eq w (codes "0x") || starts_with nat_eq w (codes "0X")

abbrev pub is_octal : Text → Bool
is_octal w = starts_with nat_eq w (codes "0")

-- what a constant without `#` writes
abbrev pub plain : Text → Option ℕ
plain w =
    if is_hexadecimal w then digits 16 (drop 2 w)
    else (if is_octal w then digits 8 w else digits 10 w)

-- what a constant writes: of any length, and none where it is not well formed
unfoldable pub written : Text → Option ℕ
written w = if list_any is_hash w then based w else plain w

-- the lowest 64 bits of a number
abbrev pub low : ℕ → ℕ
low n = n % 2 ^ 64

-- numbers have 64 bits, and a greater one wraps
abbrev pub wrapped : ℕ → ℤ
wrapped n = int_wrap w64 (pos n)

unfoldable pub constant_of : Text → Option ℤ
constant_of w = option_map wrapped (written w)

abbrev pub constant_len : Text → ℕ
constant_len t = prefix_len is_constant_byte t
