use Rattle.std.proofs.Common.{◌+◌, drop, refl}
use Rattle.shell_state.specs.Spending.{left}
use Rattle.expand_operators.proofs.InRow.{front, no_room, stopped}
use Rattle.expand_operators.proofs.each.change_each.Goals as goal

pub returns-in-Err-clause-means : goal.returns-in-Err-clause-means
returns-in-Err-clause-means g c at e =
    stopped c.args.change.now c.args.texts.now c.loop-text.changed c.as_slice.result.now (drop (c.loop-text.text-index + 1) c.args.texts.now)
    (drop c.loop-text.text-index c.args.texts.now) c.in-Err.stopped at (left c.loop-text.budget) (left c.change_text.new.budget)
    (c.loop-text.invariant.made at e) (c.in-Err.ensures.means (record at { left = left c.loop-text.budget }) refl)
    (front c.args.texts.now c.loop-text.text-index c.text-item.result c.as_slice.result.now c.loop-text-test.true c.text-item.is c.as_slice.ensures)

pub returns-in-Err-push-clause-means : goal.returns-in-Err-push-clause-means
returns-in-Err-push-clause-means g c at e =
    no_room c.args.change.now c.args.texts.now c.loop-text.changed c.as_slice.result.now c.in-Ok.text (drop (c.loop-text.text-index + 1) c.args.texts.now)
    (drop c.loop-text.text-index c.args.texts.now) at (left c.loop-text.budget) (left c.change_text.new.budget)
    (c.loop-text.invariant.made at e) (c.in-Ok.ensures.means (record at { left = left c.loop-text.budget }) refl)
    (front c.args.texts.now c.loop-text.text-index c.text-item.result c.as_slice.result.now c.loop-text-test.true c.text-item.is c.as_slice.ensures)
