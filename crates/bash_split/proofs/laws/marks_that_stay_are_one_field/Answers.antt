use Rattle.std.proofs.Common.{◌∷◌}
use Rattle.bash_split.proofs.Kept.{one-field, all-fixed}
use Rattle.bash_split.proofs.laws.marks_that_stay_are_one_field.Goals as goal

pub returns-clause-one : goal.returns-clause-one
returns-clause-one c = one-field

pub returns-clause-fixed : goal.returns-clause-fixed
returns-clause-fixed c = λ ifs m ms all. one-field ifs m ms (all-fixed ifs (m ∷ ms) all)
