use Rattle.std.proofs.Common.{◌≡◌, ◌+◌, map, take, sum_by}
use Rattle.egencache.specs.Meaning.{reading_steps, assignment_steps}
use Rattle.egencache.specs.Seen.{assigned}
use Rattle.egencache.proofs.source.take_steps.Given as goal

abbrev pub invariant-loop-assignment : goal.invariant-loop-assignment
invariant-loop-assignment g l = l.steps ≡ l.fn.steps + reading_steps l.text + sum_by assignment_steps (map assigned (take l.assignment-index l.assignments))
