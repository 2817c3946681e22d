use Rattle.std.proofs.Common.{Some}
use Rattle.std.specs.Option.{option_copied}
use Rattle.md5_cache.proofs.ReadRecord.{AreRead, AreRead-more, AreRead-none}
use Rattle.md5_cache.proofs.eclasses.read_record.Goals as goal

pub returns-in_default-first_eclass : goal.returns-in_default-first_eclass
returns-in_default-first_eclass c =
    let read : AreRead c.args.text.now c.loop-rest.eclasses.items (Some c.in-Some.left.now) = rw c.in-Some.is at c.loop-rest.invariant in
    AreRead-none c.args.text.now c.loop-rest.eclasses.items c.in-Some.left.now read c.in_default-first_eclass.ensures

pub loop-rest-preserved : goal.loop-rest-preserved
loop-rest-preserved c =
    let read : AreRead c.args.text.now c.loop-rest.eclasses.items (Some c.in-Some.left.now) = rw c.in-Some.is at c.loop-rest.invariant in
    let first = c.in-Some-first_eclass.first in
    rw (c.in_ok-push.ensures.items, c.in_ok-from_slice.ensures)
    (AreRead-more c.args.text.now c.loop-rest.eclasses.items c.in-Some.left.now (first.name.now, first.md5) (option_copied first.rest) read
    c.in-Some-first_eclass.ensures)
