use Rattle.std.proofs.Common.{◌≡◌, ◌+◌, ◌*◌, ◌++◌, take}
use Rattle.std.specs.List.{flat_map}
use Rattle.bash_braces.specs.Tokens.{opened}
use Rattle.bash_braces.proofs.token.+open.Given as goal

abbrev pub decreases-open : goal.decreases-open
decreases-open l = 2 * l.nested

abbrev pub decreases-open_all : goal.decreases-open_all
decreases-open_all l = 2 * l.nested + 1

abbrev pub invariant-open_all-loop-part : goal.invariant-open_all-loop-part
invariant-open_all-loop-part l = l.tokens.items ≡ l.fn.tokens.items ++ flat_map (opened l.nested) (take l.part-index l.parts)
