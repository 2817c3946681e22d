use Rattle.std.proofs.Common.{◌∙◌, rules, tests}
use Rattle.std.proofs.lemmas.Iterator.Consumers.{YieldsList-at, YieldsList-from_filter, YieldsList-end}
use Rattle.std.proofs.lemmas.Iterator.Splits.{YieldsList-from_slice_split}
use Rattle.byte_class.specs.Class.{is_space}
use Rattle.eb_bytes.specs.Text.{has_bytes}
use Rattle.eb_bytes.proofs.words.words_of.Goals as goal

-- the loop has seen just the words
pub returns : goal.returns
returns c =
    let seen = YieldsList-end
    (YieldsList-at c.into_iter-word-iterator.ensures.into_iter_gives
    (YieldsList-from_filter _ has_bytes
    (YieldsList-from_slice_split _ is_space c.args.text.now (cc) (cc) (cc) (λ x r q k. search (rules, tests)))
    c.filter-word-items.ensures.closure (λ x r q k. search (rules, tests))))
    c.loop-word.yielded _ c.loop-word.yielded_by _ _ c.in-None.is c.next.ensures.steps in
    let (_, _, kept) = c.loop-word.invariant in
    kept ∙ seen.0
