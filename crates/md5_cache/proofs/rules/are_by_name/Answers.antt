use Rattle.std.proofs.Common.{[], rules}
use Rattle.std.specs.Cmp.Lexicographic.{slice_cmp}
use Rattle.std.specs.Ordering.{is_lt, nat_cmp}
use Rattle.std.proofs.lemmas.List.Sorted.{answers_always}
use Rattle.eb_bytes.specs.Text.{Text}
use Rattle.md5_cache.proofs.Rising.{eclass_name, names, sorted_answer}
use Rattle.md5_cache.proofs.rules.are_by_name.Goals as goal

pub returns : goal.returns
returns c =
    let some : Text × Text = ([], []) in
    sorted_answer (slice_cmp nat_cmp) eclass_name names c.args.eclasses.now some c.is_sorted_by.result
    (c.is_sorted_by.ensures.cases (λ a b. is_lt (slice_cmp nat_cmp (eclass_name a) (eclass_name b)))
    (answers_always _ _ _ (λ f a r g called. search rules)))
