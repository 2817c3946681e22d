use Rattle.std.proofs.Common.{◌≡◌, take}
use Rattle.bash_braces.proofs.words.share.Given as goal

abbrev pub invariant-loop-index : goal.invariant-loop-index
invariant-loop-index l = l.all ≡ take l.index l.words
