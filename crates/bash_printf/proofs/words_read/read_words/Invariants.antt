use Rattle.std.proofs.Common.{◌≡◌, drop, None}
use Rattle.std.specs.Option.{option_map}
use Rattle.bash_printf.specs.Seen.{seen_destination}
use Rattle.bash_printf.specs.Use.{read_from}
use Rattle.bash_printf.proofs.words_read.read_words.Given as goal

-- the words that are left say what all of them do
abbrev pub invariant-loop-index : goal.invariant-loop-index
invariant-loop-index l = read_from l.taken (option_map seen_destination l.to) (drop l.index l.words) ≡ read_from 0 None l.words
