-- How many parts trees have.
use Rattle.std.proofs.Common.{ℕ, ◌+◌}
use Rattle.bash_patterns.specs.declared.left.Left.{Left}
use Rattle.bash_patterns.specs.declared.left.Left.TheVariants as left
use Rattle.bash_patterns.specs.declared.node.Node.{Node}
use Rattle.bash_patterns.specs.declared.node.Node.TheVariants as node

abbrev pub node_size : Node → ℕ
node_size node.Nothing = 1
node_size (node.One t) = 1
node_size node.AnyText = 1
node_size (node.Then' a p b q) = node_size p + node_size q + 1
node_size (node.Either' a p b q) = node_size p + node_size q + 1
node_size (node.Optional' a p) = node_size p + 1
node_size (node.ZeroOrMore' a p) = node_size p + 1
node_size (node.OneOrMore' a p) = node_size p + 1
node_size (node.NoneOf' a p) = node_size p + 1

abbrev pub left_size : Left → ℕ
left_size left.Never = 1
left_size left.Nothing = 1
left_size left.Anything = 1
left_size (left.Whole n) = 1
left_size (left.Then' a p n) = left_size p + 1
left_size (left.Repeated' a p n) = left_size p + 1
left_size (left.Either' a p b q) = left_size p + left_size q + 1
left_size (left.NoneOf' a p) = left_size p + 1
