use Rattle.std.proofs.Common.{◌≡◌, drop}
use Rattle.std.specs.Prelude.{fold}
use Rattle.bash_printf.specs.Echo.{with_letter}
use Rattle.bash_printf.proofs.echo_builtin.with_letters.Given as goal

abbrev pub invariant-loop-letter : goal.invariant-loop-letter
invariant-loop-letter l = fold with_letter l.options (drop l.letter-index l.letters) ≡ fold with_letter l.fn.options l.letters
