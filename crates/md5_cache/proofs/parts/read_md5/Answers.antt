use Rattle.std.proofs.Common.{sym, ◌∙◌}
use Rattle.md5_cache.proofs.ReadLast.{more-no_md5, no_line-no_md5, other_name-no_md5}
use Rattle.md5_cache.proofs.parts.read_md5.Goals as goal

pub returns-in_err-line : goal.returns-in_err-line
returns-in_err-line c = rw c.from_residual.ensures (no_line-no_md5 c.args.text.now c.in_err-line.ensures)

pub returns-then-not-is_text : goal.returns-then-not-is_text
returns-then-not-is_text c =
    let line = c.in_ok-line.line in
    other_name-no_md5 c.args.text.now line.name.now line.value.now line.rest.now c.in_ok-line.ensures
    (λ e. cc (sym c.if-not-is_text.true ∙ c.is_text.ensures.1 e))

pub returns-then-not-is_text-2 : goal.returns-then-not-is_text-2
returns-then-not-is_text-2 c =
    let line = c.in_ok-line.line in
    more-no_md5 c.args.text.now line.name.now line.value.now line.rest.now c.in_ok-line.ensures
    (λ e. cc (sym c.if-not-is_text-2.true ∙ c.is_text-2.ensures.1 e))
