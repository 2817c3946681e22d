use Rattle.std.proofs.Common.{◌≡◌, map, take}
use Rattle.eb_bytes.specs.Text.{Text}
use Rattle.bash_braces.specs.declared.symbol.Symbol.TheVariants.{Byte}
use Rattle.bash_braces.proofs.words.WordsValue.run.Given as goal

abbrev pub invariant-loop-text : goal.invariant-loop-text
invariant-loop-text l = l.all ≡ map (λ (t : Text). map Byte t) (take l.text-index l.text-items)
