use Rattle.std.proofs.Common.{◌≡◌, append-nil, get_or, refl, arith}
use Rattle.md5_cache.proofs.Kept.{filter_map-more}
use Rattle.eapi_tables.specs.Key.{all_keys}
use Rattle.md5_cache.specs.Entry.{kept_value}
use Rattle.eapi_tables.specs.declared.key.Key.TheVariants as key
use Rattle.md5_cache.proofs.entry.kept_values.Goals as goal
use Rattle.md5_cache.proofs.entry.kept_values.Goals.{in-Some+in_ok-push, in_default}

pub loop-key-preserved : goal.loop-key-preserved
loop-key-preserved c =
    let f = kept_value c.args.values.now in
    let i = c.loop-key.key-index in
    let more = filter_map-more f all_keys i key.Bdepend c.loop-key-test.true in
    let kept : c.in_ok-value.field-0 ≡ f (get_or all_keys i key.Bdepend) = c.in_ok-value.ensures in
    elim c.match-branch-2.branch [
      | in-Some+in_ok-push w ↦
          rw (more, ← kept, w.in-Some.is, ← c.loop-key.invariant, w.kept-is, w.in_ok-push.ensures.items) refl
      | in_default w ↦ rw (more, ← kept, w.in_default.is, ← c.loop-key.invariant, w.kept-is, append-nil) refl
    ]

pub returns : goal.returns
returns c = let all : c.loop-key.key-index ≡ 18 = omega arith in rw all at c.loop-key.invariant
