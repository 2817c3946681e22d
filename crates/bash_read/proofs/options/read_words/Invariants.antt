use Rattle.std.proofs.Common.{◌≡◌, drop, filter}
use Rattle.bash_read.specs.Options.{job, read_from, takes_word}
use Rattle.bash_read.specs.Seen.{seen_options}
use Rattle.bash_read.proofs.options.read_words.Given as goal

-- the words that are left say what all of them do
abbrev pub invariant-loop-index : goal.invariant-loop-index
invariant-loop-index l = read_from (filter takes_word l.taking) (seen_options l.options) (drop l.index l.words) ≡ job l.words
