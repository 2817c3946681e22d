use Rattle.std.proofs.Common.{◌+◌, ◌-◌, length, refl}
use Rattle.std.proofs.lemmas.List.{take_rest}
use Rattle.bash_patterns.proofs.Lone.{open_begun, open_next}
use Rattle.bash_patterns.proofs.bracket_reader.open_ends.Goals as goal

pub loop-count-init : goal.loop-count-init
loop-count-init c = open_begun _ c.new-ends.ensures.items _ c.in_ok-push.ensures.items c.args.symbols.now

pub loop-count-preserved : goal.loop-count-preserved
loop-count-preserved c =
    open_next c.args.symbols.now _ _ _ c.loop-count.count (length c.args.symbols.now - 1 - c.loop-count.count) _ _ c.stays_open-stays.result c.loop-count-test.true refl refl (take_rest c.args.symbols.now (length c.args.symbols.now - 1 - c.loop-count.count + 1)) c.loop-count.invariant c.stays_open-stays.ensures c.in_ok-push-2.ensures.items
