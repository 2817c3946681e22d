use Rattle.std.proofs.Common.{◌≡◌, length}
use Rattle.std.specs.List.{list_all}
use Rattle.version_funcs.specs.Walk.{is_suffix_text, after_marks}
use Rattle.version_funcs.proofs.read.are_suffixes.Given as goal

abbrev pub invariant-loop-piece : goal.invariant-loop-piece
invariant-loop-piece l = list_all is_suffix_text (after_marks 95 l.left) ≡ list_all is_suffix_text (after_marks 95 l.text)

abbrev pub decreases-loop-piece : goal.decreases-loop-piece
decreases-loop-piece l = length l.left
