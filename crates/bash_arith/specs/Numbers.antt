-- What operators make of numbers of 64 bits, which wrap (Bash Reference Manual, "Shell Arithmetic").
use Rattle.std.specs.Prelude.{ℕ, ℤ, pos, negsuc, ◌%◌, Bool, true, false, not, int_lt, int_rem, Result, Ok, Err, if◌then◌else◌}
use Rattle.std.specs.Int.{w64, cast_unsigned, int_wrapping_add, int_wrapping_sub, int_wrapping_mul, int_wrapping_div, int_wrapping_neg, int_wrapping_pow, int_bit_and, int_bit_or, int_bit_xor, int_bit_not, int_shl, int_shr}
use Rattle.std.specs.Fmt.{signed_decimal}
use Rattle.std.specs.Ordering.{int_eq}
use Rattle.eb_bytes.specs.Text.{Text}
use Rattle.arith_syntax.specs.declared.operator.Operator.{Operator}
use Rattle.arith_syntax.specs.declared.operator.Operator.TheVariants.{BitOr, BitXor, BitAnd, Equal, NotEqual, Less, LessOrEqual, Greater, GreaterOrEqual, ShiftLeft, ShiftRight, Add, Subtract, Multiply, Divide, Remainder}
use Rattle.arith_syntax.specs.declared.operator.Sign.{Sign}
use Rattle.arith_syntax.specs.declared.operator.Sign.TheVariants as sign
use Rattle.arith_syntax.specs.declared.operator.Increment.{Increment}
use Rattle.arith_syntax.specs.declared.operator.Increment.TheVariants.{Up, Down}
use Rattle.bash_arith.specs.declared.error.ArithErr.{ArithErr}
use Rattle.bash_arith.specs.declared.error.ArithErr.TheVariants.{DivZero, NegativeExponent}

abbrev pub is_zero : ℤ → Bool
is_zero n = int_eq n (pos 0)

-- true is 1, and false is 0
abbrev pub truth : Bool → ℤ
truth true = pos 1
truth false = pos 0

-- a shift counts modulo 64, also a negative one
abbrev pub shift : ℤ → ℕ
shift n = cast_unsigned w64 n % 64

abbrev pub unless_zero : ℤ → ℤ → Result ℤ ArithErr
unless_zero n quotient = if is_zero n then Err DivZero else Ok quotient

-- division rounds towards 0; the least number by -1 is itself, with the rest 0
abbrev pub operated : Operator → ℤ → ℤ → Result ℤ ArithErr
operated BitOr l r = Ok (int_bit_or w64 l r)
operated BitXor l r = Ok (int_bit_xor w64 l r)
operated BitAnd l r = Ok (int_bit_and w64 l r)
operated Equal l r = Ok (truth (int_eq l r))
operated NotEqual l r = Ok (truth (not (int_eq l r)))
operated Less l r = Ok (truth (int_lt l r))
operated LessOrEqual l r = Ok (truth (not (int_lt r l)))
operated Greater l r = Ok (truth (int_lt r l))
operated GreaterOrEqual l r = Ok (truth (not (int_lt l r)))
operated ShiftLeft l r = Ok (int_shl w64 l (shift r))
operated ShiftRight l r = Ok (int_shr l (shift r))
operated Add l r = Ok (int_wrapping_add w64 l r)
operated Subtract l r = Ok (int_wrapping_sub w64 l r)
operated Multiply l r = Ok (int_wrapping_mul w64 l r)
operated Divide l r = unless_zero r (int_wrapping_div w64 l r)
operated Remainder l r = unless_zero r (int_rem l r)

abbrev pub signed : Sign → ℤ → ℤ
signed sign.Not n = truth (is_zero n)
signed sign.Complement n = int_bit_not w64 n
signed sign.Plus n = n
signed sign.Minus n = int_wrapping_neg w64 n

abbrev pub raised : ℤ → ℤ → Result ℤ ArithErr
raised base (pos n) = Ok (int_wrapping_pow w64 base n)
raised base (negsuc n) = Err NegativeExponent

abbrev pub incremented : Increment → ℤ → ℤ
incremented Up n = int_wrapping_add w64 n (pos 1)
incremented Down n = int_wrapping_sub w64 n (pos 1)

-- a number's decimal digits, after `-` where it is below 0
abbrev pub number_text : ℤ → Text
number_text n = signed_decimal n
