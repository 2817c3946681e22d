use Rattle.std.proofs.Common.{◌∙◌, arith}
use Rattle.std.specs.List.{list_any}
use Rattle.eb_grammar.specs.declared.ansi.Meaning.TheVariants.{Byte, Nothing, Refused}
use Rattle.eb_grammar.specs.AnsiText.{has_refused_escape, is_refused}
use Rattle.eb_grammar.proofs.AnsiParts.{last_part, other_part}
use Rattle.eb_grammar.proofs.ansi.has_refused_escape.Goals.{in-Byte, in-Nothing}
use Rattle.eb_grammar.proofs.ansi.has_refused_escape.Goals as goal

pub returns-in-Refused : goal.returns-in-Refused
unfolding has_refused_escape
returns-in-Refused c =
    other_part (list_any is_refused) c.args.text.now c.loop-part.rest.now c.loop-part._part c.part_of-meaning.result (omega arith)
    c.part_of-meaning.ensures.part (Refused c.in-Refused.field-0) c.in-Refused.is c.part_of-meaning.ensures.within
    ∙ c.loop-part.invariant

pub returns-in-End : goal.returns-in-End
unfolding has_refused_escape
returns-in-End c =
    last_part (list_any is_refused) c.args.text.now c.loop-part.rest.now c.loop-part._part c.part_of-meaning.result (omega arith)
    c.part_of-meaning.ensures.part c.in-End.is
    ∙ c.loop-part.invariant

pub loop-part-preserved : goal.loop-part-preserved
loop-part-preserved c =
    let text = c.args.text.now in
    let rest = c.loop-part.rest.now in
    elim c.match-meaning.branch [
      | in-Byte w ↦
          other_part (list_any is_refused) text rest c.loop-part._part c.part_of-meaning.result (omega arith)
          c.part_of-meaning.ensures.part (Byte w.in-Byte.field-0) w.in-Byte.is c.part_of-meaning.ensures.within
          ∙ c.loop-part.invariant
      | in-Nothing w ↦
          other_part (list_any is_refused) text rest c.loop-part._part c.part_of-meaning.result (omega arith)
          c.part_of-meaning.ensures.part Nothing w.in-Nothing.is c.part_of-meaning.ensures.within
          ∙ c.loop-part.invariant
    ]
