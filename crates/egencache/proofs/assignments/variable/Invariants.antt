use Rattle.std.proofs.Common.{◌≡◌, map, drop}
use Rattle.std.specs.Option.{option_copied}
use Rattle.egencache.specs.Assignments.{later_or, variable}
use Rattle.egencache.specs.Seen.{assigned}
use Rattle.egencache.proofs.assignments.variable.Given as goal

abbrev pub invariant-loop-assignment : goal.invariant-loop-assignment
invariant-loop-assignment l = later_or (variable l.name (map assigned (drop l.assignment-index l.assignments))) (option_copied l.found) ≡ variable l.name (map assigned l.assignments)
