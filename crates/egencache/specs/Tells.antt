-- What an answer of the code says.
use Rattle.std.specs.Prelude.{◌≡◌, ℕ, List, Option, Some, None, Result, Ok, Err}
use Rattle.egencache.specs.declared.assignments.PlainErr.{PlainErr}
use Rattle.egencache.specs.declared.assignments.PlainErr.TheVariants.{NotPlain, Memory}
use Rattle.egencache.specs.Assignments.{Assigned}

-- the list of assignments comes exactly where no line is bad, and a line's number exactly where that line is
abbrev pub TellsAssignments : {V : Type 0} → (V → List Assigned) → Result V PlainErr → Option ℕ → List Assigned → Type 0
TellsAssignments view (Ok list) bad given = (bad ≡ None) × (view list ≡ given)
TellsAssignments view (Err (NotPlain line)) bad given = bad ≡ Some line
TellsAssignments view (Err Memory) bad given = Unit {0}
