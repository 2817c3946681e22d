use Rattle.std.proofs.Common.{◌≡◌, drop}
use Rattle.std.specs.Prelude.{fold}
use Rattle.bash_options.specs.Set.{with_letter}
use Rattle.bash_options.proofs.set_builtin.with_letters.Given as goal

abbrev pub invariant-loop-letter : goal.invariant-loop-letter
invariant-loop-letter l = fold (with_letter l.sign) l.noglob (drop l.letter-index l.letters) ≡ fold (with_letter l.sign) l.fn.noglob l.letters
