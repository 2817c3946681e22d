use Rattle.std.proofs.Common.{◌≡◌, drop}
use Rattle.bash_declare.specs.Options.{with_letters}
use Rattle.bash_declare.proofs.options.with_letters.Given as goal

abbrev pub invariant-loop-letter : goal.invariant-loop-letter
invariant-loop-letter l =
    with_letters l.fn.declaration l.fn.letters l.fn.options ≡ with_letters l.fn.declaration (drop l.letter-index l.letters) l.read
