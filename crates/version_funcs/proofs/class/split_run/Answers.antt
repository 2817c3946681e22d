use Rattle.std.proofs.Common.{arith}
use Rattle.std.proofs.lemmas.List.Sums.{prefix_len-le-length}
use Rattle.version_funcs.specs.Byte.{in_class}
use Rattle.version_funcs.proofs.class.split_run.Goals as goal

pub split_at-requires : goal.split_at-requires
split_at-requires c = omega (arith, prefix_len-le-length (in_class c.args.class) c.args.text.now, c.run_len.ensures)
