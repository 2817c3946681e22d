use Rattle.std.proofs.Common.{◌≡◌, rules}
use Rattle.md5_cache.specs.Entry.{entry_text}
use Rattle.md5_cache.proofs.Whole.{text-no_entry_before, text-one}
use Rattle.md5_cache.proofs.write.write_entry.Goals as goal

pub returns-clause-one : goal.returns-clause-one
returns-clause-one c =
    let is : c.put_line.new.out ≡ entry_text c.args.entry.now = search rules in
    text-one c.args.entry.now c.put_line.new.out c.values.ensures.rules is

pub returns-clause-whole : goal.returns-clause-whole
returns-clause-whole c =
    let is : c.put_line.new.out ≡ entry_text c.args.entry.now = search rules in
    text-no_entry_before c.args.entry.now c.put_line.new.out c.values.ensures.rules is
