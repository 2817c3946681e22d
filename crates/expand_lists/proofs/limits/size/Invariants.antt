use Rattle.std.proofs.Common.{drop}
use Rattle.expand_lists.specs.Fit.{LeadsTo}
use Rattle.expand_lists.proofs.limits.size.Given as goal

-- the size so far leads to that of all fields
abbrev pub invariant-loop-field : goal.invariant-loop-field
invariant-loop-field l = LeadsTo l.size (drop l.field-index l.fields) l.fields
