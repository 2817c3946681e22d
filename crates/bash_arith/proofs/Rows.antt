-- What the definition says of small texts over no variables, with as many steps as one wants.
use Rattle.std.proofs.Common.{◌≡◌, ℕ, ℤ, pos, negsuc, List, [], ◌∷◌, refl, codes, map}
use Prim.Native.String.{String}
use Rattle.std.specs.Int.{int_wrap}
use Rattle.arith_syntax.specs.Names.{after_blanks, name_at}
use Rattle.arith_syntax.specs.Constants.{written, constant_of}
use Rattle.arith_syntax.specs.Symbols.{post_increment, pre_increment, symbol_at}
use Rattle.arith_syntax.specs.Reading.{operand, power, binary_operator_at, grown, joined, binary, conditional, assignment, whole, reading, expression}
use Rattle.bash_arith.specs.declared.error.ArithErr.{ArithErr}
use Rattle.bash_arith.specs.declared.error.ArithErr.TheVariants as e
use Rattle.bash_arith.specs.Outcome.{State, Outcome, Ended, Faulted, last}
use Rattle.bash_arith.specs.Value.{arithmetic, nestings_of, text_value, used, valued}

abbrev at : ℕ → State
at n = record { store = []; left = n }

abbrev number : ℤ → Outcome
number z = Ended z (at 3)

abbrev fault : ArithErr → Outcome
fault f = Faulted f (at 3)

abbrev value : String → Outcome
value text = last (arithmetic (codes text) (at 3))

numbers : map value ("2**3**2" ∷ "7/-2" ∷ "-7%3" ∷ "-7/2" ∷ "9223372036854775807+1" ∷ "16#ff" ∷ "-2**2" ∷ "1<<65" ∷ "1<<-1" ∷ "-8>>1" ∷ "!0+~0" ∷ "5&&0||7" ∷ "0&&1/0" ∷ "1?2:3/0" ∷ "1,2" ∷ "3>2>1" ∷ "-9223372036854775808/-1" ∷ "-9223372036854775808%-1" ∷ "0**0" ∷ "18446744073709551617" ∷ "" ∷ [])
    ≡ map number (pos 512 ∷ negsuc 2 ∷ negsuc 0 ∷ negsuc 2 ∷ negsuc 9223372036854775807 ∷ pos 255 ∷ pos 4 ∷ pos 2 ∷ negsuc 9223372036854775807 ∷ negsuc 3 ∷ pos 0 ∷ pos 1 ∷ pos 0 ∷ pos 2 ∷ pos 2 ∷ pos 0 ∷ negsuc 9223372036854775807 ∷ pos 0 ∷ pos 1 ∷ pos 1 ∷ pos 0 ∷ [])
unfolding arithmetic nestings_of text_value used valued expression after_blanks reading whole joined assignment conditional binary power operand pre_increment post_increment constant_of written symbol_at grown binary_operator_at name_at int_wrap
numbers = refl

faults : map value ("1/0" ∷ "1%0" ∷ "2**-1" ∷ "08" ∷ "1/0+(" ∷ "0||1/0" ∷ "RANDOM" ∷ "0&&RANDOM," ∷ [])
    ≡ map fault (e.DivZero ∷ e.DivZero ∷ e.NegativeExponent ∷ e.Syntax ∷ e.Syntax ∷ e.DivZero ∷ e.Unsupported (codes "RANDOM") ∷ e.Syntax ∷ [])
unfolding arithmetic nestings_of text_value used valued expression after_blanks reading whole joined assignment conditional binary power operand pre_increment post_increment constant_of written symbol_at grown binary_operator_at name_at int_wrap
faults = refl
