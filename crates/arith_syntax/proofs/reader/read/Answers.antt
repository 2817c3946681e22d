use Rattle.std.proofs.Common.{◌≡◌, ◌∙◌, sym}
use Rattle.std.proofs.lemmas.Result.{err_from_is_err_and}
use Rattle.arith_syntax.specs.declared.error.ReadErr.TheVariants.{Refused}
use Rattle.arith_syntax.specs.declared.error.Refusal.TheVariants.{Syntax}
use Rattle.arith_syntax.proofs.Rules.{program_after, program_empty, program_read, program_refused, refused_as}
use Rattle.arith_syntax.proofs.reader.read.Goals as goal

pub returns-then-is_blank-clause-ok : goal.returns-then-is_blank-clause-ok
returns-then-is_blank-clause-ok c =
    program_empty c.args.nesting_left c.args.text.now c.push.new.code.items (sym c.is_blank.ensures ∙ c.if-is_blank.true) c.new-code.ensures.items c.in_ok-push.ensures

pub returns-in_err-read-clause-refused : goal.returns-in_err-read-clause-refused
returns-in_err-read-clause-refused c =
    let p = err_from_is_err_and c.from_residual-in_err-read.result c.from_residual-in_err-read.ensures.1 in
    rw (p.1, p.2) (λ refusal h.
    let k : c.in_err-read.field-0.0 ≡ Refused refusal = cc in
    program_refused c.args.nesting_left c.args.text.now (sym c.is_blank.ensures ∙ c.if-is_blank.false) (c.in_err-read.ensures refusal k))

pub returns-then-is_blank-2-clause-ok : goal.returns-then-is_blank-2-clause-ok
returns-then-is_blank-2-clause-ok c =
    program_read c.args.text.now (sym c.is_blank.ensures ∙ c.if-is_blank.false) c.new-code.ensures.items c.in_ok-read.ensures (sym c.is_blank-2.ensures ∙ c.if-is_blank-2.true)

pub returns-clause-refused : goal.returns-clause-refused
returns-clause-refused c = λ refusal h.
    let k : Refused Syntax ≡ Refused refusal = cc in
    refused_as (program_after c.args.text.now (sym c.is_blank.ensures ∙ c.if-is_blank.false) c.in_ok-read.ensures (sym c.is_blank-2.ensures ∙ c.if-is_blank-2.false)) k
