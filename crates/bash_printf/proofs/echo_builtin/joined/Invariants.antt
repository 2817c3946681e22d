use Rattle.std.proofs.Common.{◌≡◌, ◌∷◌, drop}
use Rattle.std.specs.List.{join_with_byte}
use Rattle.bash_printf.proofs.echo_builtin.joined.Given as goal

abbrev pub invariant-loop-word : goal.invariant-loop-word
invariant-loop-word l = join_with_byte 32 (l.joined ∷ drop l.word-index l.others) ≡ join_with_byte 32 l.words
