use Rattle.shell_vars.proofs.Histories.{after_calls}
use Rattle.shell_vars.proofs.laws.calls_give_the_frames.Goals as goal

pub returns : goal.returns
returns c = after_calls
