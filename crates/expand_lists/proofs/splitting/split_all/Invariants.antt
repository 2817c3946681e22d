use Rattle.std.proofs.Common.{◌≡◌, take}
use Rattle.word_meaning.specs.Lists.{split_marks}
use Rattle.expand_lists.proofs.splitting.split_all.Given as goal

abbrev pub invariant-loop-word : goal.invariant-loop-word
invariant-loop-word l = l.parts ≡ split_marks l.separators (take l.word-index l.words)
