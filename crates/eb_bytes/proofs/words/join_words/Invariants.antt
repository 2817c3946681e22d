use Rattle.std.proofs.Common.{◌≡◌, ◌∷◌, drop}
use Rattle.std.specs.List.{join_with_byte}
use Rattle.eb_bytes.specs.Text.{norm}
use Rattle.eb_bytes.proofs.words.join_words.Given as goal

abbrev pub invariant-loop-word : goal.invariant-loop-word
invariant-loop-word l = join_with_byte 32 (l.joined ∷ drop l.word-index l.others) ≡ norm l.text
