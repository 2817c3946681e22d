use Rattle.bash_patterns.proofs.Parted.{made_repeated, repeated_made}
use Rattle.bash_patterns.proofs.laws.repeats_are_any_parts.Goals as goal

pub returns : goal.returns
returns c = record { made = made_repeated; repeats = repeated_made }
