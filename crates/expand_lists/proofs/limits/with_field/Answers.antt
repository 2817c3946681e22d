use Rattle.std.proofs.Common.{◌≡◌, ◌+◌, ◌≤◌, length, arith}
use Rattle.expand_lists.proofs.Fitted.{next_fits}
use Rattle.expand_lists.proofs.limits.with_field.Goals as goal

pub returns : goal.returns
returns c left all l =
    let short : length c.args.field.now ≤ 1048576 = omega (arith, c.if-field-gt-MOST_BYTES.false) in
    let same : c.saturating_add-more.result ≡ c.args.size + (length c.args.field.now + 1) =
    omega (arith, c.saturating_add-more.ensures, c.if-more-gt-MOST_IN_ALL.false, short) in
    let few : c.args.size + (length c.args.field.now + 1) ≤ 33554432 = omega (arith, same, c.if-more-gt-MOST_IN_ALL.false) in
    next_fits c.args.size c.saturating_add-more.result c.args.field.now left all short few same l
