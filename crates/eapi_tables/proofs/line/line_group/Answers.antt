use Rattle.std.proofs.Common.{◌∙◌}
use Rattle.eapi_tables.proofs.EapiParts.{line_cases, line_value}
use Rattle.eapi_tables.proofs.line.line_group.Goals as goal

pub returns-in_err-value : goal.returns-in_err-value
returns-in_err-value c = rw c.from_residual.ensures (λ group m.
    let v = line_value c.args.line.now group m in
    c.in_err-value.ensures v.0 (c.after_blanks.ensures ∙ v.1))

pub returns : goal.returns
returns c =
    line_cases c.value_group.result c.args.line.now c.after_blanks.result.now c.in_ok-value.value.now c.after_blanks.ensures c.in_ok-value.ensures c.value_group.ensures
