use Rattle.std.proofs.Common.{◌≡◌, length}
use Rattle.std.specs.List.{list_all}
use Rattle.version_funcs.specs.Version.{is_number}
use Rattle.version_funcs.specs.Walk.{after_marks}
use Rattle.version_funcs.proofs.read.are_numbers.Given as goal

abbrev pub invariant-loop-piece : goal.invariant-loop-piece
invariant-loop-piece l = list_all is_number (after_marks 46 l.left) ≡ list_all is_number (after_marks 46 l.text)

abbrev pub decreases-loop-piece : goal.decreases-loop-piece
decreases-loop-piece l = length l.left
