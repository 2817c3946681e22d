use Rattle.std.proofs.Common.{◌≡◌, drop}
use Rattle.bash_options.specs.Set.{read_from}
use Rattle.bash_options.proofs.set_builtin.read_words.Given as goal

-- the words that are left say what all of them do
abbrev pub invariant-loop-index : goal.invariant-loop-index
invariant-loop-index l = read_from l.noglob (drop l.index l.words) ≡ read_from l.fn.noglob l.words
