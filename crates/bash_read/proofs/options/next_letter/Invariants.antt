use Rattle.std.proofs.Common.{◌≡◌, drop, filter}
use Rattle.bash_read.specs.Options.{takes_word}
use Rattle.bash_read.proofs.options.next_letter.Given as goal

abbrev pub invariant-loop-index : goal.invariant-loop-index
invariant-loop-index l = filter takes_word (drop l.index l.letters) ≡ filter takes_word l.letters
