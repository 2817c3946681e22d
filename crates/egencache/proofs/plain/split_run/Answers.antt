use Rattle.std.proofs.Common.{arith}
use Rattle.std.proofs.lemmas.List.Sums.{prefix_len-le-length}
use Rattle.egencache.specs.Seen.{in_class}
use Rattle.egencache.proofs.plain.split_run.Goals as goal

pub split_at-requires : goal.split_at-requires
split_at-requires c = omega (arith, prefix_len-le-length (in_class c.args.class) c.args.text.now, c.run_len.ensures)
