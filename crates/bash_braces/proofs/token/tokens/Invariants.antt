use Rattle.std.proofs.Common.{◌≡◌, take}
use Rattle.bash_braces.specs.Tokens.{tokens}
use Rattle.bash_braces.proofs.token.tokens.Given as goal

abbrev pub invariant-loop-piece : goal.invariant-loop-piece
invariant-loop-piece l = l.all.items ≡ tokens (take l.piece-index l.pieces)
