use Rattle.std.proofs.Common.{map, refl, sym, ◌∙◌}
use Rattle.version_funcs.specs.Seen.{seen_swap}
use Rattle.version_funcs.proofs.Replaced.{put-all, put-more, put-none}
use Rattle.version_funcs.proofs.replace.replaced.Goals as goal

pub loop-index-init : goal.loop-index-init
loop-index-init c =
    put-none c.args.v.now c.split_run.result.0.now c.in_ok-text.text (map seen_swap c.args.swaps.now) c.len-last.result c.in_ok-parts.parts.items c.deref-part-items.result.now c.in_ok-parts.ensures (c.len-last.ensures ∙ sym c.deref-part-items.ensures.len) c.deref-part-items.ensures.value c.split_run.ensures.run (c.in_ok-text.ensures ∙ c.separator_after.ensures)

pub loop-index-preserved : goal.loop-index-preserved
loop-index-preserved c =
    put-more c.loop-index.text c.extend.new.self c.extend-in-loop-index.new.self c.separator_after-in-loop-index.result.now _ (map seen_swap c.args.swaps.now) c.loop-index.index c.len-last.result c.deref-part-items.result.now _ _ c.loop-index-test.true refl c.separator_after-in-loop-index.ensures c.in_ok-extend.ensures.ok c.in_ok-extend-2.ensures.ok c.loop-index.invariant

pub returns : goal.returns
returns c = put-all c.loop-index.text _ (map seen_swap c.args.swaps.now) c.loop-index.index c.len-last.result c.deref-part-items.result.now c.loop-index-test.false c.loop-index.invariant
