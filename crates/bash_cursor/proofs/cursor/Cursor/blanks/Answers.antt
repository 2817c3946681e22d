use Rattle.std.proofs.Common.{◌∙◌, [], ◌∷◌, refl}
use Rattle.eb_grammar.specs.Peg.{single, ◌<$>◌}
use Rattle.eb_grammar.specs.Names.{blank, blanks}
use Rattle.bash_cursor.proofs.Skips.{known, skip_go, skip_no, skip_out}
use Rattle.bash_cursor.proofs.cursor.Cursor.blanks.Goals as goal

pub loop-turn-preserved : goal.loop-turn-preserved
loop-turn-preserved c =
    let kept = c.loop-turn.invariant.1 in
    let more = c.in-Some.ensures.1 in
    let go = skip_go (single <$> blank) c.left-turn-end.result c.loop-turn._turn c.loop-turn.self.spot c.blank.new.self.spot (c.in-Some.field-0 ∷ []) c.loop-turn-test.true (rw (c.in-Some.ensures.0) refl) in
    (c.loop-turn.invariant.0 ∙ go, ((more.0.0 ∙ kept.0.0, more.0.1 ∙ kept.0.1), (more.1.0 ∙ kept.1.0, more.1.1 ∙ kept.1.1)))

pub returns : goal.returns
returns c =
    let out = skip_out (single <$> blank) c.left-turn-end.result c.loop-turn._turn c.loop-turn.self.spot c.loop-turn-test.false in
    (known blanks c.args.self.now.spot c.loop-turn.self.spot (c.loop-turn.invariant.0 ∙ out), c.loop-turn.invariant.1)

pub returns-in-None : goal.returns-in-None
returns-in-None c =
    let out = skip_no (single <$> blank) c.left-turn-end.result c.loop-turn._turn c.loop-turn.self.spot c.loop-turn-test.true (rw (c.in-None.ensures.0) refl) in
    rw (c.in-None.ensures.1) (known blanks c.args.self.now.spot c.loop-turn.self.spot (c.loop-turn.invariant.0 ∙ out), c.loop-turn.invariant.1)
