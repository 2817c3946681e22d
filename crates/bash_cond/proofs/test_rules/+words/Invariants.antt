use Rattle.std.proofs.Common.{◌+◌, ◌*◌, length}
use Rattle.bash_cond.proofs.test_rules.+words.Given as goal

-- each rule asks others for the same words, or for fewer
abbrev pub decreases-or_words : goal.decreases-or_words
decreases-or_words l = 5 * length l.words.now + 4

abbrev pub decreases-and_words : goal.decreases-and_words
decreases-and_words l = 5 * length l.words.now + 3

abbrev pub decreases-not_words : goal.decreases-not_words
decreases-not_words l = 5 * length l.words.now + 2

abbrev pub decreases-prim : goal.decreases-prim
decreases-prim l = 5 * length l.words.now + 1

abbrev pub decreases-group : goal.decreases-group
decreases-group l = 5 * length l.words.now
