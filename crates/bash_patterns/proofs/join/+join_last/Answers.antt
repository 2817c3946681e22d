use Rattle.std.proofs.Common.{arith, length, refl}
use Rattle.bash_patterns.specs.Joining.{language}
use Rattle.bash_patterns.proofs.Joined.{joined_last, joined_none, joined_pair}
use Rattle.bash_patterns.proofs.join.+join_last.Goals as goal

pub returns-then-count-eq0-clause-node : goal.returns-then-count-eq0-clause-node
returns-then-count-eq0-clause-node t c = rw c.if-count-eq0.true (joined_none c.args.how c.args.nodes.now.items (length c.args.nodes.now.items) (language c.in_ok-node.node) c.in_ok-node.ensures refl)

pub returns-in-Some-clause-node : goal.returns-in-Some-clause-node
returns-in-Some-clause-node t c = rw c.if-count-eq1.true (joined_last c.args.how c.args.nodes.now.items _ c.in-Some.node c.in-Some.ensures.items)

pub returns-clause-node : goal.returns-clause-node
returns-clause-node t c =
    joined_pair c.args.how c.args.nodes.now.items c.join_last.new.nodes.items c.args.count _ (language c.in_ok-first.first) (language c.in_ok-second.second) (language c.in_ok-node-2.node) (omega arith) c.requires c.in_ok-second.ensures.rest c.in_ok-second.ensures.node c.in_ok-first.ensures.node c.in_ok-node-2.ensures
