use Rattle.std.proofs.Common.{◌≡◌, sym, ◌∙◌, subst}
use Rattle.eb_bytes.specs.Text.{Text}
use Rattle.version_funcs.specs.Version.{Version, IsWellFormed, spelling}
use Rattle.version_funcs.proofs.Spelled.{PartsAre, parts_are}
use Rattle.version_funcs.proofs.Ordered.{parts_order, parts_order-value}
use Rattle.version_funcs.proofs.compare.compare_versions.Goals as goal

parts_of_spelled : (t : Text) (v : Version) → IsWellFormed v → t ≡ spelling v → PartsAre t v
parts_of_spelled t v well spelled = let P : Text → Type 0 = λ u. PartsAre u v in subst P (sym spelled) (parts_are v well)

pub returns : goal.returns
returns c v w well_v well_w spelled_v spelled_w =
    let compared : c.then-4.result ≡ parts_order c.args.a.now c.args.b.now = simp (c.then-4.ensures, c.then-3.ensures, c.then-2.ensures, c.then.ensures, c.compare_numbers.ensures.texts, c.compare_later.ensures, c.cmp.ensures, c.compare_suffixes.ensures, c.compare_revisions.ensures, c.version_parts-v.ensures.first, c.version_parts-v.ensures.later, c.version_parts-v.ensures.letter, c.version_parts-v.ensures.suffixes, c.version_parts-v.ensures.revision, c.version_parts-w.ensures.first, c.version_parts-w.ensures.later, c.version_parts-w.ensures.letter, c.version_parts-w.ensures.suffixes, c.version_parts-w.ensures.revision) in
    compared ∙ parts_order-value c.args.a.now c.args.b.now v w well_v well_w (parts_of_spelled c.args.a.now v well_v spelled_v) (parts_of_spelled c.args.b.now w well_w spelled_w)
