use Rattle.md5_cache.proofs.Cuts.{line_is, no_equals-no_line, no_newline-no_line}
use Rattle.md5_cache.proofs.lines.first_line.Goals as goal

pub returns-in_err-content : goal.returns-in_err-content
returns-in_err-content c = rw c.from_residual.ensures (no_newline-no_line c.args.text.now c.in_err-content.ensures)

pub returns-in_err-name : goal.returns-in_err-name
returns-in_err-name c =
    rw c.from_residual-in_err-name.ensures
    (no_equals-no_line c.args.text.now c.in_ok-content.content.now c.in_ok-content.rest.now c.in_ok-content.ensures c.in_err-name.ensures)

pub returns : goal.returns
returns c =
    line_is c.args.text.now c.in_ok-content.content.now c.in_ok-content.rest.now c.in_ok-name.name.now c.in_ok-name.value.now c.in_ok-content.ensures
    c.in_ok-name.ensures
