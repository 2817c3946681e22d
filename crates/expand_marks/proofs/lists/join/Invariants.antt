use Rattle.std.proofs.Common.{◌≡◌, ◌++◌, drop}
use Rattle.std.specs.List.{flat_map}
use Rattle.word_meaning.specs.Marks.{between, together}
use Rattle.expand_marks.proofs.lists.join.Given as goal

-- what is joined, and what is still to come, are the whole
abbrev pub invariant-loop-text : goal.invariant-loop-text
invariant-loop-text l =
    l.joined ++ flat_map (λ t. between l.star l.first_of_ifs ++ t) (drop l.text-index l.others) ≡ together l.star l.first_of_ifs l.texts
