use Rattle.std.proofs.Common.{◌≡◌, length}
use Rattle.std.specs.Cmp.Lexicographic.{slice_cmp}
use Rattle.version_funcs.specs.Compared.{component_text_order}
use Rattle.version_funcs.specs.Walk.{after_marks}
use Rattle.version_funcs.proofs.compare.compare_later.Given as goal

abbrev pub invariant-components : goal.invariant-components
invariant-components l = slice_cmp component_text_order (after_marks 46 l.a_left) (after_marks 46 l.b_left) ≡ slice_cmp component_text_order (after_marks 46 l.a) (after_marks 46 l.b)

abbrev pub decreases-components : goal.decreases-components
decreases-components l = length l.a_left
