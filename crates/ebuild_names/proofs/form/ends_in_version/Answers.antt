use Rattle.std.proofs.Common.{◌∙◌, refl, sym}
use Rattle.ebuild_names.proofs.Ends.{ends_in_version-next}
use Rattle.ebuild_names.proofs.form.ends_in_version.Goals as goal

pub loop-left-preserved : goal.loop-left-preserved
loop-left-preserved c = ends_in_version-next c.loop-left.left.now _ c.in-len1-up.len_at_least refl (sym c.if-is_hyphen_and_version.ensures) ∙ c.loop-left.invariant
