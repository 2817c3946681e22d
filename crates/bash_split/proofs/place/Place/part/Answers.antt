use Rattle.bash_split.proofs.Passing.{part-within}
use Rattle.bash_split.proofs.place.Place.part.Goals as goal

pub returns-in_ok-push-in-Within : goal.returns-in_ok-push-in-Within
returns-in_ok-push-in-Within c = λ ifs ms is_part. rw c.in-Within.is (part-within ifs c.in-Within.begun c.push.new.self c.args.mark ms is_part c.in_ok-push-in-Within.ensures.ok)
