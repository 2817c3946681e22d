use Rattle.std.proofs.Common.{◌≡◌, List, map, subst, sym, ap, ◌∙◌}
use Rattle.std.specs.List.{AllByRecursion}
use Rattle.eb_bytes.specs.Text.{lines}
use Rattle.egencache.specs.declared.assignments.Assignment.{Assignment}
use Rattle.egencache.specs.Assignments.{Assigned, assignments_of}
use Rattle.egencache.specs.Meaning.{HasZeroFreeValue}
use Rattle.egencache.specs.Seen.{assigned}
use Rattle.egencache.proofs.PlainValues.{assignments-free}
use Rattle.egencache.proofs.source.source_in.Goals as goal

pub outcome_of-requires : goal.outcome_of-requires
outcome_of-requires g c =
    let read : map assigned c.as_slice-2.result.now ≡ assignments_of (lines c.args.text.now) = ap (λ (xs : List Assignment). map assigned xs) c.as_slice-2.ensures.value ∙ c.in-Ok.ensures.1 in
    let P : List Assigned → Type 0 = λ given. AllByRecursion HasZeroFreeValue given in
    subst P (sym read) (assignments-free (lines c.args.text.now))
