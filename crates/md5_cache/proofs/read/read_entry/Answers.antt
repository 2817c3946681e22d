use Rattle.md5_cache.specs.Entry.{EntryContent}
use Rattle.md5_cache.specs.Parts.{IsPlainText}
use Rattle.md5_cache.proofs.Ruled.{not_plain-none}
use Rattle.md5_cache.proofs.Whole.{ok-one, plain-none}
use Rattle.md5_cache.proofs.read.read_entry.Goals as goal

pub returns-in-Some-clause-one : goal.returns-in-Some-clause-one
returns-in-Some-clause-one c =
    let parts = c.in-Some.parts in
    let content : EntryContent = record { values = parts.values.items; eclasses = parts.eclasses.items; md5 = parts.md5 } in
    let plain : IsPlainText c.args.text.now content = rw c.in-Some.is at c.in_ok-parts.ensures in
    ok-one c.of_parts.result content c.args.text.now c.of_parts.ensures.same c.of_parts.ensures.rules plain.is

pub returns-in-Some-clause-bad : goal.returns-in-Some-clause-bad
returns-in-Some-clause-bad c = λ bad.
    let parts = c.in-Some.parts in
    let content : EntryContent = record { values = parts.values.items; eclasses = parts.eclasses.items; md5 = parts.md5 } in
    let plain : IsPlainText c.args.text.now content = rw c.in-Some.is at c.in_ok-parts.ensures in
    plain-none content c.args.text.now plain.plain plain.is (c.of_parts.ensures.bad bad)

pub returns-in-None-clause-bad : goal.returns-in-None-clause-bad
returns-in-None-clause-bad c = λ _. not_plain-none c.args.text.now (rw c.in-None.is at c.in_ok-parts.ensures)
