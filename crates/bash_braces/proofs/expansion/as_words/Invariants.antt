use Rattle.std.proofs.Common.{◌≡◌, ◌++◌, length}
use Rattle.bash_braces.specs.Braces.{as_words}
use Rattle.bash_braces.specs.Symbols.{tokens_of_symbols}
use Rattle.bash_braces.proofs.expansion.as_words.Given as goal

abbrev pub invariant-loop-word : goal.invariant-loop-word
invariant-loop-word l = l.all.items ++ as_words (tokens_of_symbols l.tokens l.words) ≡ as_words (tokens_of_symbols l.tokens l.fn.words)

abbrev pub decreases-loop-word : goal.decreases-loop-word
decreases-loop-word l = length l.words
