use Rattle.std.proofs.Common.{◌≡◌, drop}
use Rattle.bash_options.specs.Use.{nothing, read_from}
use Rattle.bash_options.proofs.shopt_words.read_words.Given as goal

-- the words that are left say what all of them do
abbrev pub invariant-loop-index : goal.invariant-loop-index
invariant-loop-index l = read_from l.asked (drop l.index l.words) ≡ read_from nothing l.words
