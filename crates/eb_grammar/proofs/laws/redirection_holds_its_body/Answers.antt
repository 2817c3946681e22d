use Rattle.eb_grammar.proofs.Bodies.{fills}
use Rattle.eb_grammar.proofs.laws.redirection_holds_its_body.Goals as goal

pub returns : goal.returns
returns c = fills
