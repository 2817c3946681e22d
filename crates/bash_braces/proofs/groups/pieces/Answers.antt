use Rattle.std.proofs.Common.{◌∙◌}
use Rattle.bash_braces.specs.Symbols.{token_of}
use Rattle.bash_braces.proofs.Nesting.{nest_step}
use Rattle.bash_braces.proofs.groups.pieces.Goals as goal

pub loop-symbol-preserved : goal.loop-symbol-preserved
loop-symbol-preserved c = nest_step (token_of c.args.tokens.now) c.loop-symbol.nest c.in_ok-nest.nest c.loop-symbol.word c.take_last.new.self c.in-Some.symbol c.in_ok-token_of.field-0 c.in-Some.ensures c.in_ok-token_of.ensures c.in_ok-nest.ensures ∙ c.loop-symbol.invariant
