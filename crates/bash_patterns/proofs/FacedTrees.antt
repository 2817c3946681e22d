-- Trees as a walk sees them.
use Rattle.std.proofs.Common.{◌≡◌, refl, ap, ◌∙◌}
use Rattle.bash_patterns.specs.declared.node.Node.{Node, Nothing, One, AnyText, Then', Either', Optional', ZeroOrMore', OneOrMore', NoneOf'}
use Rattle.bash_patterns.specs.declared.way.Way.{Way}
use Rattle.bash_patterns.specs.declared.way.Way.TheVariants.{Backward, Forward}
use Rattle.bash_patterns.specs.Facing.{facing_form, facing_node}
use Rattle.bash_patterns.specs.Form.{AnyTimes, AtMostOnce, Both, Choice, Form, Not, OnceOrMore, form_of}
use Rattle.bash_patterns.specs.Turned.{turned}

two_trees : (f : Form → Form → Form) (a b c d : Form) → a ≡ c → b ≡ d → f a b ≡ f c d
two_trees f a b c d e h = cc

tree_back : (n : Node) → facing_node Backward n ≡ form_of n
unfolding facing_node form_of
tree_back Nothing = refl
tree_back (One t) = refl
tree_back AnyText = refl
tree_back (Then' a p b q) = two_trees Both _ _ _ _ (tree_back p) (tree_back q)
tree_back (Either' a p b q) = two_trees Choice _ _ _ _ (tree_back p) (tree_back q)
tree_back (Optional' a p) = ap AtMostOnce (tree_back p)
tree_back (ZeroOrMore' a p) = ap AnyTimes (tree_back p)
tree_back (OneOrMore' a p) = ap OnceOrMore (tree_back p)
tree_back (NoneOf' a p) = ap Not (tree_back p)

tree_forth : (n : Node) → facing_node Forward n ≡ turned (form_of n)
unfolding facing_node form_of turned
tree_forth Nothing = refl
tree_forth (One t) = refl
tree_forth AnyText = refl
tree_forth (Then' a p b q) = two_trees Both _ _ _ _ (tree_forth q) (tree_forth p)
tree_forth (Either' a p b q) = two_trees Choice _ _ _ _ (tree_forth p) (tree_forth q)
tree_forth (Optional' a p) = ap AtMostOnce (tree_forth p)
tree_forth (ZeroOrMore' a p) = ap AnyTimes (tree_forth p)
tree_forth (OneOrMore' a p) = ap OnceOrMore (tree_forth p)
tree_forth (NoneOf' a p) = ap Not (tree_forth p)

faced_tree : (w : Way) (n : Node) → facing_node w n ≡ facing_form w (form_of n)
unfolding facing_form
faced_tree Backward n = tree_back n
faced_tree Forward n = tree_forth n

pub same_tree : (w v : Way) (m n : Node) → w ≡ v → m ≡ n → facing_node w m ≡ facing_form v (form_of n)
same_tree w v m n e f =
    let same : facing_node w m ≡ facing_node v n = cc in
    same ∙ faced_tree v n
