use Rattle.std.proofs.Common.{◌≡◌, drop}
use Rattle.bash_declare.specs.Options.{options_of, with_words}
use Rattle.bash_declare.proofs.options.read_options.Given as goal

abbrev pub invariant-loop-word : goal.invariant-loop-word
invariant-loop-word l = options_of l.fn.declaration l.fn.words ≡ with_words l.fn.declaration (drop l.word-index l.words) l.options
