use Rattle.std.proofs.Common.{◌≡◌, drop}
use Rattle.std.specs.Prelude.{fold}
use Rattle.bash_options.specs.Use.{with_letter}
use Rattle.bash_options.proofs.shopt_words.with_letters.Given as goal

abbrev pub invariant-loop-letter : goal.invariant-loop-letter
invariant-loop-letter l = fold with_letter l.asked (drop l.letter-index l.letters) ≡ fold with_letter l.fn.asked l.letters
