use Rattle.std.proofs.Common.{◌∙◌, [], ◌∷◌, ◌++◌, append_assoc}
use Rattle.eb_grammar.specs.HereDocuments.{body_line}
use Rattle.bash_cursor.proofs.Turns.{turn_go}
use Rattle.bash_cursor.proofs.here_lines.body_lines.Goals as goal

pub loop-turn-preserved : goal.loop-turn-preserved
loop-turn-preserved c =
    let kept = c.loop-turn.invariant.1 in
    let more = c.in-Some.ensures.1 in
    let go = turn_go (body_line c.args.mark.now) c.left-turn-end.result c.loop-turn._turn c.loop-turn.text c.loop-turn.c.spot (c.in-Some.line.now ++ 10 ∷ []) c.body_line.new.c.spot c.loop-turn-test.true c.in-Some.ensures.0 in
    rw (c.in-Ok.ensures, append_assoc c.loop-turn.text c.in-Some.line.now (10 ∷ [])) (c.loop-turn.invariant.0 ∙ go, ((more.0.0 ∙ kept.0.0, more.0.1 ∙ kept.0.1), (more.1.0 ∙ kept.1.0, more.1.1 ∙ kept.1.1)))
