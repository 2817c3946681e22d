use Rattle.std.proofs.Common.{◌≡◌, map, take}
use Rattle.word_meaning.specs.Marks.{result as as_result}
use Rattle.expand_marks.proofs.texts.as_results.Given as goal

abbrev pub invariant-loop-mark : goal.invariant-loop-mark
invariant-loop-mark l = l.results ≡ map as_result (take l.mark-index l.marks)
