use Rattle.std.proofs.Common.{◌≡◌, length}
use Rattle.ebuild_names.specs.Walk.{ends_in_version}
use Rattle.ebuild_names.proofs.form.ends_in_version.Given as goal

abbrev pub invariant-loop-left : goal.invariant-loop-left
invariant-loop-left l = ends_in_version l.left ≡ ends_in_version l.text

abbrev pub decreases-loop-left : goal.decreases-loop-left
decreases-loop-left l = length l.left
