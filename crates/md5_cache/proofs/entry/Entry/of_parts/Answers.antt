use Rattle.std.proofs.Common.{◌≡◌, Some, sym, ap, subst, ◌∙◌}
use Rattle.std.specs.List.{All}
use Rattle.md5_cache.specs.Entry.{EntryContent, eapi_of}
use Rattle.md5_cache.specs.Parts.{KeepsRules}
use Rattle.md5_cache.proofs.Ruled.{ruled}
use Rattle.md5_cache.proofs.entry.Entry.of_parts.Goals as goal

pub returns-then-not-branch-2-clause-bad : goal.returns-then-not-branch-2-clause-bad
returns-then-not-branch-2-clause-bad c = λ _ h.
    let parts = c.args.parts in
    let content : EntryContent = record { values = parts.values.items; eclasses = parts.eclasses.items; md5 = parts.md5 } in
    let same = c.as_slice-values.ensures.value in
    let named : eapi_of parts.values.items ≡ Some c.in-Some.eapi = ap eapi_of (sym same) ∙ sym c.in_ok-eapi.ensures ∙ c.in-Some.is in
    let keep = subst (All (KeepsRules c.in-Some.eapi)) (sym same) (ruled content c.in-Some.eapi named h) in
    cc (sym c.if-not-branch-2.true ∙ c.in_ok-all_keep_rules.ensures.1 keep)
