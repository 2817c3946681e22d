-- What was kept is an entry by the rules.
use Rattle.std.proofs.Common.{◌≡◌, List, true, ap, ◌∙◌, subst, IsSome, IsTrue}
use Rattle.eb_bytes.specs.Text.{Text}
use Rattle.eapi_tables.specs.declared.key.Key.{Key}
use Rattle.md5_cache.proofs.Kept.{IsEntry-kept}
use Rattle.md5_cache.specs.Entry.{eapi_of, is_complete, kept_values}
use Rattle.md5_cache.proofs.entry.Entry.new.Goals as goal

pub invariant_of-result : goal.invariant_of-result
invariant_of-result c =
    let values = c.args.values.items in
    let same = c.as_slice.ensures.value in
    let kept : c.in_ok-kept.kept.items ≡ kept_values values = c.in_ok-kept.ensures.values ∙ ap kept_values same in
    let complete : is_complete values ≡ true = subst (λ (xs : List (Key × Text)). IsTrue (is_complete xs)) same c.in_ok-kept.ensures.complete in
    let named : IsSome (eapi_of values) = subst (λ (xs : List (Key × Text)). IsSome (eapi_of xs)) same c.in_ok-kept.ensures.eapi in
    rw (kept, c.as_digest.ensures.same)
    (IsEntry-kept values c.args.eclasses.items c.in_ok-record.record.items c.args.md5 c.requires.no_zero complete named c.requires.names
    c.in_ok-record.ensures.record c.in_ok-record.ensures.digests c.as_digest.ensures.digest)
