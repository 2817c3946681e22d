use Rattle.std.proofs.Common.{◌≡◌, take}
use Rattle.std.specs.List.{flat_map}
use Rattle.bash_cursor.proofs.trail.Trail.list.Given as goal

abbrev pub invariant-loop-run : goal.invariant-loop-run
invariant-loop-run g l = l.list ≡ flat_map (λ run. run) (take l.run-index l.self-inside.runs)
