use Rattle.std.proofs.Common.{arith}
use Rattle.std.proofs.lemmas.List.Sums.{prefix_len-le-length}
use Rattle.arith_syntax.specs.Constants.{is_constant_byte}
use Rattle.arith_syntax.proofs.constant.constant_at.Goals as goal

pub split_at-requires : goal.split_at-requires
split_at-requires c = omega (arith, prefix_len-le-length is_constant_byte c.args.text.now, c.constant_len.ensures)
