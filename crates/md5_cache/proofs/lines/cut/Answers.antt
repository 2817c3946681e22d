use Rattle.std.proofs.Common.{arith}
use Rattle.std.proofs.lemmas.List.Sums.{prefix_len-le-length}
use Rattle.md5_cache.specs.Parts.{differs}
use Rattle.md5_cache.proofs.Cuts.{cut_is, cut_none}
use Rattle.md5_cache.proofs.lines.cut.Goals as goal

pub split_at-requires : goal.split_at-requires
split_at-requires c = omega (arith, c.len_before.ensures, prefix_len-le-length (differs c.args.byte) c.args.text.now)

pub returns-in-empty : goal.returns-in-empty
returns-in-empty c =
    cut_none c.args.byte c.args.text.now c.split_at.result.1.now c.len_before.result c.len_before.ensures c.split_at.ensures.back c.in-empty.len_below

pub returns-in-len1-up : goal.returns-in-len1-up
returns-in-len1-up c =
    cut_is c.args.byte c.args.text.now c.split_at.result.0.now c.split_at.result.1.now c.len_before.result c.len_before.ensures
    c.split_at.ensures.front c.split_at.ensures.back c.in-len1-up.len_at_least
