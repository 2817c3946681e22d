use Rattle.std.proofs.Common.{◌≡◌, map}
use Rattle.eb_bytes.proofs.words.words_of.Given as goal

abbrev pub invariant-loop-word : goal.invariant-loop-word
invariant-loop-word l =
    (goal.iterator-loop-word).can_next l.word-iterator ×
    (goal.iterator-loop-word).is_finite l.word-iterator ×
    (l.list.items ≡ map (λ word. word.now) l.yielded)
