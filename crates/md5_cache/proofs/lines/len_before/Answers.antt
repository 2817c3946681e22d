use Rattle.std.proofs.Common.{◌∙◌}
use Rattle.md5_cache.proofs.Cuts.{prefix_len-first}
use Rattle.md5_cache.proofs.lines.len_before.Goals as goal

pub returns : goal.returns
returns c = c.unwrap_or.ensures ∙ prefix_len-first c.args.byte c.args.text.now c.memchr.result c.memchr.ensures
