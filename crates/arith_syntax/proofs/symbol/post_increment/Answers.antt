use Rattle.std.proofs.Common.{ap, ◌∙◌}
use Rattle.arith_syntax.specs.Symbols.{first_of, increments, post_increment}
use Rattle.arith_syntax.proofs.symbol.post_increment.Goals as goal

pub returns : goal.returns
unfolding post_increment
returns c = c.increment_at.ensures ∙ ap (first_of increments) c.after_blanks.ensures
