use Rattle.std.proofs.Common.{◌≡◌, ◌++◌, List, length, map}
use Rattle.bash_braces.specs.declared.symbol.Symbol.{Symbol}
use Rattle.bash_braces.proofs.words.put_before.Given as goal

abbrev pub invariant-loop-word : goal.invariant-loop-word
invariant-loop-word l = l.all ++ map (λ (v : List Symbol). l.start ++ v) l.words ≡ map (λ (v : List Symbol). l.start ++ v) l.fn.words

abbrev pub decreases-loop-word : goal.decreases-loop-word
decreases-loop-word l = length l.words
