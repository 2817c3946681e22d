use Rattle.md5_cache.proofs.ReadValues.{no_key-no_value, no_line-no_value}
use Rattle.md5_cache.proofs.lines.first_value.Goals as goal

pub returns-in_err-line : goal.returns-in_err-line
returns-in_err-line c = rw c.from_residual.ensures (no_line-no_value c.args.text.now c.in_err-line.ensures)

pub returns-in_err-key : goal.returns-in_err-key
returns-in_err-key c =
    let line = c.in_ok-line.line in
    rw c.from_residual-in_err-key.ensures
    (no_key-no_value c.args.text.now line.name.now line.value.now line.rest.now c.in_ok-line.ensures (λ k e. cc (c.in_err-key.ensures.each k e)))
