use Rattle.std.proofs.Common.{◌≡◌, length}
use Rattle.version_funcs.specs.Compared.{suffix_texts_order}
use Rattle.version_funcs.specs.Walk.{after_marks}
use Rattle.version_funcs.proofs.compare.compare_suffixes.Given as goal

abbrev pub invariant-suffixes : goal.invariant-suffixes
invariant-suffixes l = suffix_texts_order (after_marks 95 l.a_left) (after_marks 95 l.b_left) ≡ suffix_texts_order (after_marks 95 l.a) (after_marks 95 l.b)

abbrev pub decreases-suffixes : goal.decreases-suffixes
decreases-suffixes l = length l.a_left
