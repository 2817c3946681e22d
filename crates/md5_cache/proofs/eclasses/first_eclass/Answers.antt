use Rattle.std.proofs.Common.{ap, sym, ◌∙◌}
use Rattle.std.specs.Option.{option_copied}
use Rattle.std.specs.Result.{result_ok}
use Rattle.md5_cache.proofs.ReadRecord.{no_digest-no_eclass, no_name-no_eclass, no_tab-no_eclass}
use Rattle.md5_cache.proofs.eclasses.first_eclass.Goals as goal

pub returns-in_err-name : goal.returns-in_err-name
returns-in_err-name c = rw c.from_residual.ensures (no_tab-no_eclass c.args.text.now c.in_err-name.ensures)

pub returns-then-not-is_eclass_name : goal.returns-then-not-is_eclass_name
returns-then-not-is_eclass_name c =
    no_name-no_eclass c.args.text.now c.in_ok-name.name.now c.in_ok-name.after.now c.in_ok-name.ensures
    (λ is. cc (sym c.if-not-is_eclass_name.true ∙ c.is_eclass_name.ensures.1 is))

pub returns-in_err-md5 : goal.returns-in_err-md5
returns-in_err-md5 c =
    let field = c.first_field-field in
    rw c.from_residual-in_err-md5.ensures
    (no_digest-no_eclass c.args.text.now c.in_ok-name.name.now c.in_ok-name.after.now field.result.text.now (option_copied field.result.rest)
    c.in_ok-name.ensures field.ensures.is field.ensures.lacks (λ d is e. cc (c.in_err-md5.ensures.value ∙ ap result_ok (c.read.ensures.each d is e))))
