use Rattle.std.proofs.Common.{◌≡◌, ◌-◌, length, get_or, ◌∙◌, rules}
use Rattle.version_funcs.proofs.LastZeros.{without_last_zeros-zero}
use Rattle.version_funcs.proofs.compare.without_last_zeros.Goals as goal

pub loop-left-preserved : goal.loop-left-preserved
loop-left-preserved c =
    let left = c.loop-left.left.now in
    let zero_digit : get_or left (length left - 1) 0 ≡ 48 = search rules in
    without_last_zeros-zero left c.in-48.len_at_least zero_digit ∙ c.loop-left.invariant
