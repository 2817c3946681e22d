use Rattle.std.proofs.Common.{◌≡◌, [], ◌∷◌, ◌++◌}
use Rattle.std.specs.List.{flat_map}
use Rattle.bash_cursor.proofs.trail.Trail.push.Given as goal

abbrev pub invariant-loop-run : goal.invariant-loop-run
invariant-loop-run g l = flat_map (λ run. run) l.runs ++ l.last ≡ l.fn.self ++ l.fn.item ∷ []
