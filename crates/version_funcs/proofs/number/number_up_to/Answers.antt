use Rattle.std.proofs.Common.{ℕ, ◌+◌, ◌*◌, min, ap, ◌∙◌}
use Rattle.version_funcs.proofs.Numbers.{clamped-more}
use Rattle.version_funcs.proofs.number.number_up_to.Goals as goal

pub loop-digit-preserved : goal.loop-digit-preserved
loop-digit-preserved c =
    c.min-number.ensures
    ∙ ap (λ (d : ℕ). min (c.loop-digit.number * 10 + d) c.args.most) c.from.ensures
    ∙ clamped-more c.args.most c.loop-digit.number c.loop-digit.digit-index c.args.digits.now c.loop-digit-test.true c.loop-digit.invariant
