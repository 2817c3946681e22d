use Rattle.std.proofs.Common.{◌≡◌, None, sym, ap, ◌∙◌}
use Rattle.signed_numbers.specs.Numbers.{signed_number}
use Rattle.eb_bytes.proofs.Results.{err_is, ok_is}
use Rattle.signed_numbers.proofs.Signed.{not_text, parsed}
use Rattle.signed_numbers.proofs.read_signed.Goals as goal

pub returns-in_err-ok : goal.returns-in_err-ok
returns-in_err-ok c =
    let none : c.from_residual.result ≡ None = cc in
    none ∙ not_text c.args.text.now (err_is c.from_utf8.result _ _ _ (sym c.ok.ensures.value ∙ c.in_err-ok.was) c.from_utf8.ensures.cases)

pub returns : goal.returns
returns c =
    let text = ok_is c.from_utf8.result c.in_ok-ok.field-0 _ _ (sym c.ok.ensures.value ∙ c.in_ok-ok.was) c.from_utf8.ensures.cases in
    c.ok-2.ensures.value ∙ parsed c.in_ok-ok.field-0.now c.parse.result c.parse.ensures.value.0 ∙ ap signed_number text.0
