use Rattle.std.proofs.Common.{◌≡◌, ◌+◌, ◌≤◌, length, take}
use Rattle.std.specs.List.{suffix_len}
use Rattle.eb_files.specs.Paths.{is_slash}
use Rattle.eb_files.proofs.path.cut_slashes.Given as goal

abbrev pub invariant-loop-end : goal.invariant-loop-end
invariant-loop-end l = (l.end ≤ length l.word) × (l.end + suffix_len is_slash l.word ≡ length l.word + suffix_len is_slash (take l.end l.word))

abbrev pub decreases-loop-end : goal.decreases-loop-end
decreases-loop-end l = l.end
