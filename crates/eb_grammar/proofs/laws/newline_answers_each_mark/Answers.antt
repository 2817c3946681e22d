use Rattle.eb_grammar.proofs.Bodies.{newline_answers}
use Rattle.eb_grammar.proofs.laws.newline_answers_each_mark.Goals as goal

pub returns : goal.returns
returns c = newline_answers
