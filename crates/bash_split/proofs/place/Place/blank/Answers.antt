use Rattle.bash_split.proofs.Passing.{blank-within}
use Rattle.bash_split.proofs.place.Place.blank.Goals as goal

pub returns-in_ok-push-in-Within : goal.returns-in_ok-push-in-Within
returns-in_ok-push-in-Within c = λ ifs m is_blank ms. rw c.in-Within.is (blank-within ifs c.in-Within.begun _ _ m ms is_blank c.in_ok-push-in-Within.ensures.items)
