use Rattle.std.proofs.Common.{[], rules}
use Rattle.std.specs.Ordering.{is_lt, nat_cmp}
use Rattle.eapi_tables.specs.declared.key.Key.{Key}
use Rattle.eapi_tables.specs.declared.key.Key.TheVariants as key
use Rattle.std.proofs.lemmas.List.Sorted.{answers_always}
use Rattle.eb_bytes.specs.Text.{Text}
use Rattle.md5_cache.proofs.Rising.{numbers, sorted_answer, value_place}
use Rattle.md5_cache.proofs.rules.are_in_order.Goals as goal

pub returns : goal.returns
returns c =
    let some : Key × Text = (key.Slot, []) in
    sorted_answer nat_cmp value_place numbers c.args.values.now some c.is_sorted_by.result
    (c.is_sorted_by.ensures.cases (λ a b. is_lt (nat_cmp (value_place a) (value_place b)))
    (answers_always _ _ _ (λ f a r g called. search rules)))
