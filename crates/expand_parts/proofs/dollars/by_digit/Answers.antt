use Rattle.std.proofs.Common.{[], ◌∷◌}
use Rattle.eb_syntax.specs.declared.parts.RefOf.TheVariants as ref
use Rattle.word_meaning.specs.References.{referred}
use Rattle.word_meaning.specs.Words.{index, inside}
use Rattle.expand_parts.proofs.dollars.by_digit.Goals as goal

pub returns : goal.returns
returns c sub at s =
    c.shown_if_found.ensures sub (referred (index sub (inside sub c.args.scene.now.room)) (ref.Digits (c.args.digit ∷ [])) at) at s
    (c.positional.ensures (index sub (inside sub c.args.scene.now.room)) at s.args)
