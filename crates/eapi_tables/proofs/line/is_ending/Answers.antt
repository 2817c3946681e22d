use Rattle.std.proofs.Common.{refl, sym, ◌∙◌, rules}
use Rattle.eapi_tables.proofs.EapiParts.{ending_blank, nil_is, comment_iff, other_not_ending}
use Rattle.eapi_tables.proofs.line.is_ending.Goals as goal

pub returns-in-empty : goal.returns-in-empty
returns-in-empty c =
    ((λ _. ending_blank c.args.text.now (sym c.after_blanks-rest.ensures ∙ nil_is c.after_blanks-rest.result.now c.in-empty.len_below)), (λ _. refl))

pub returns-in-35 : goal.returns-in-35
returns-in-35 c =
    comment_iff c.args.text.now c.after_blanks-rest.result.now c.after_blanks-rest.ensures c.in-35.len_at_least (search rules)

pub returns-in_default : goal.returns-in_default
returns-in_default c =
    ((λ no. absurd (search rules)), (λ e. absurd (other_not_ending c.args.text.now c.after_blanks-rest.result.now c.after_blanks-rest.ensures c.in_default.len_at_least (search rules) e)))
