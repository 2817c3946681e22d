use Rattle.std.proofs.Common.{◌≡◌, drop, find}
use Rattle.bash_read.specs.Options.{is_no_name}
use Rattle.bash_read.proofs.options.no_name.Given as goal

abbrev pub invariant-loop-word : goal.invariant-loop-word
invariant-loop-word l = find is_no_name (drop l.word-index l.words) ≡ find is_no_name l.words
