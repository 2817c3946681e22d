use Rattle.std.proofs.Common.{◌≡◌, ◌++◌, ◌∷◌, [], drop}
use Rattle.std.specs.List.{flat_map}
use Rattle.shell_marks.specs.declared.marked.Mark.TheVariants.{Break}
use Rattle.word_meaning.specs.Marks.{apart, element}
use Rattle.expand_marks.proofs.lists.put_apart.Given as goal

-- what was put, and what is still to come, are the whole
abbrev pub invariant-loop-text : goal.invariant-loop-text
invariant-loop-text l =
    l.marks ++ flat_map (λ t. (Break ∷ []) ++ element l.quoted t) (drop l.text-index l.others) ≡ l.fn.marks ++ apart l.quoted l.texts
