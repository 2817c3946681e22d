use Rattle.std.proofs.Common.{◌≡◌, drop}
use Rattle.bash_braces.specs.Reading.{enclosed}
use Rattle.bash_braces.proofs.Enclosing.{onto_found}
use Rattle.bash_braces.proofs.reading.enclosed.Given as goal

abbrev pub invariant-loop-token : goal.invariant-loop-token
invariant-loop-token l = onto_found l.text (enclosed (drop l.token-index l.tokens)) ≡ enclosed l.tokens
