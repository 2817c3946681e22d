use Rattle.std.proofs.Common.{◌≡◌, length, map}
use Rattle.bash_braces.specs.Groups.{empty}
use Rattle.bash_braces.specs.Symbols.{token_of}
use Rattle.bash_braces.proofs.Nesting.{nest_onto}
use Rattle.bash_braces.proofs.groups.pieces.Given as goal

abbrev pub invariant-loop-symbol : goal.invariant-loop-symbol
invariant-loop-symbol l = nest_onto l.nest (map (token_of l.tokens) l.word) ≡ nest_onto empty (map (token_of l.tokens) l.fn.word)

abbrev pub decreases-loop-symbol : goal.decreases-loop-symbol
decreases-loop-symbol l = length l.word
