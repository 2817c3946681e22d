use Rattle.std.proofs.Common.{◌≡◌, ◌++◌, map, take, drop}
use Rattle.eb_files.specs.Plans.{sooner}
use Rattle.eb_files.proofs.plan.bring_nearer.Given as goal

abbrev pub invariant-loop-plan : goal.invariant-loop-plan
invariant-loop-plan g l = l.plan-items ≡ map sooner (take l.plan-index l.initial.plan-items) ++ drop l.plan-index l.initial.plan-items
