use Rattle.std.proofs.Common.{arith}
use Rattle.std.proofs.lemmas.Grind.{common_steps}
use Rattle.bash_compounds.proofs.LoopWords.{words_none}
use Rattle.bash_compounds.proofs.loops.words_and_lines.Goals as goal

pub returns-then-eat : goal.returns-then-eat
returns-then-eat g c =
    let h = words_none c.args.c.now.room c.args.c.now.spot c.blanks.new.self.spot _ c.blanks.ensures.0 c.eat.new.self.spot c.if-eat.ensures.0 in
    grind (arith, common_steps, h)

pub returns-then-eat-2 : goal.returns-then-eat-2
returns-then-eat-2 g c =
    let h = words_none c.args.c.now.room c.args.c.now.spot c.blanks.new.self.spot _ c.blanks.ensures.0 c.eat.new.self.spot c.if-eat.ensures.0 in
    grind (arith, common_steps, h)
