-- Failures that were asked for, in the order of the asking.
use Rattle.std.specs.Prelude.{ℕ, ◌-◌, ◌==◌, not, Bool, true, false, List, [], ◌∷◌, ◌++◌, map, filter, reverse, Option}
use Rattle.std.specs.List.{find}
use Rattle.std.specs.Option.{option_map}
use Rattle.eb_files.specs.declared.plan.Plan.{Plan}

-- whether any is left to come
abbrev pub has_plan : {T : Type 0} → List (Plan T) → Bool
has_plan [] = false
has_plan (p ∷ ps) = true

-- whether it comes with the next call
abbrev pub is_due : {T : Type 0} → Plan T → Bool
is_due p = p.after == 0

-- what the failure of the next call leaves: where several come with it, as the one asked for last says
abbrev pub due : {T : Type 0} → List (Plan T) → Option T
due ps = option_map (λ p. p.left) (find is_due (reverse ps))

-- one call nearer
abbrev pub sooner : {T : Type 0} → Plan T → Plan T
sooner p = record p { after = p.after - 1 }

-- whether it is still to come after the next call
abbrev pub waits : {T : Type 0} → Plan T → Bool
waits p = not (is_due p)

-- what is left to come after the next call
abbrev pub nearer : {T : Type 0} → List (Plan T) → List (Plan T)
nearer ps = map sooner (filter waits ps)

-- with one more: the call after so many others fails, and leaves this
abbrev pub asked : {T : Type 0} → List (Plan T) → ℕ → T → List (Plan T)
asked ps after left = ps ++ record { after = after; left = left } ∷ []
