use Rattle.std.proofs.Common.{sym, ◌∙◌}
use Rattle.md5_cache.specs.Parts.{IsNoRecord}
use Rattle.md5_cache.proofs.ReadLast.{no_line-no_last, no_md5-no_last, no_md5_after-no_last, no_record-no_last}
use Rattle.md5_cache.proofs.parts.read_last.Goals as goal

pub returns-in_default : goal.returns-in_default
returns-in_default c = no_line-no_last c.args.text.now c.in_default.ensures

pub returns-in-None : goal.returns-in-None
returns-in-None c =
    let line = c.in-Some.line in
    no_md5-no_last c.args.text.now line.name.now line.value.now line.rest.now c.in-Some.ensures
    (λ e. cc (sym c.if-not-is_text.true ∙ c.is_text.ensures.1 e)) c.in-None.ensures

pub returns-in_default-2 : goal.returns-in_default-2
returns-in_default-2 c =
    let line = c.in-Some.line in
    let none : IsNoRecord line.value.now = rw c.in_default-2.is at c.in_ok-eclasses.ensures in
    no_record-no_last c.args.text.now line.name.now line.value.now line.rest.now c.in-Some.ensures
    (c.is_text.ensures.0 c.if-not-is_text.false) none

pub returns-in-None-read_md5 : goal.returns-in-None-read_md5
returns-in-None-read_md5 c =
    let line = c.in-Some.line in
    no_md5_after-no_last c.args.text.now line.name.now line.value.now line.rest.now c.in-Some.ensures
    (c.is_text.ensures.0 c.if-not-is_text.false) c.in-None-read_md5.ensures
