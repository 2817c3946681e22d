use Rattle.md5_cache.proofs.ReadLast.{no_last-no_text}
use Rattle.md5_cache.proofs.parts.read_parts.Goals as goal

pub returns-in-None : goal.returns-in-None
returns-in-None c =
    let first = c.in_ok-first.first in
    no_last-no_text c.args.text.now first.values.items first.rest.now c.in_ok-first.ensures (rw c.in-None.is at c.in_ok-last.ensures)
