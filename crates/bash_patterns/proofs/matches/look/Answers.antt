use Rattle.bash_patterns.specs.Facing.{facing, facing_form}
use Rattle.bash_patterns.proofs.matches.look.Goals as goal

pub returns-in_ok-begins : goal.returns-in_ok-begins
unfolding facing facing_form
returns-in_ok-begins c = c.in_ok-begins.ensures
