use Rattle.bash_patterns.specs.Facing.{facing}
use Rattle.bash_patterns.proofs.Faced.{byte_back, byte_forth}
use Rattle.bash_patterns.proofs.way.Way.byte.Goals as goal

pub returns-in-Backward : goal.returns-in-Backward
unfolding facing
returns-in-Backward c = rw c.in-Backward.is (byte_back c.args.text.now c.args.count c.requires)

pub returns-in-Forward : goal.returns-in-Forward
unfolding facing
returns-in-Forward c = rw c.in-Forward.is (byte_forth c.args.text.now c.args.count c.requires)
