use Rattle.std.proofs.Common.{◌≡◌, ◌+◌, ◌-◌, length, sym, ap, ◌∙◌, arith}
use Rattle.printf_format.specs.declared.escapes.Ending.TheVariants as ending
use Rattle.printf_format.specs.declared.escapes.Meaning.TheVariants.{Byte, End, Stop}
use Rattle.printf_format.specs.declared.escapes.Spelled.{Spelled as Made}
use Rattle.printf_format.specs.Escapes.{Spelled, spelled, spelled_in}
use Rattle.printf_format.proofs.Spelt.{byte_more, ends_there, next_part}
use Rattle.printf_format.proofs.escapes.spell.Goals as goal

pub returns-in-End-clause-text : goal.returns-in-End-clause-text
unfolding spelled
returns-in-End-clause-text c =
    let next = next_part (length c.args.text.now) c.loop-part._part c.loop-part.rest.now c.part_of-meaning.result.1.now End (omega arith) (sym c.in-End.is ∙ c.part_of-meaning.ensures.meaning) c.part_of-meaning.ensures.rest in
    ends_there c.loop-part.value c.ended.result.text ending.Through _ _ (ap (λ (s : Made). s.text) c.ended.ensures) next c.loop-part.invariant.text

pub returns-in-End-clause-ending : goal.returns-in-End-clause-ending
unfolding spelled
returns-in-End-clause-ending c =
    let next = next_part (length c.args.text.now) c.loop-part._part c.loop-part.rest.now c.part_of-meaning.result.1.now End (omega arith) (sym c.in-End.is ∙ c.part_of-meaning.ensures.meaning) c.part_of-meaning.ensures.rest in
    ap (λ (s : Made). s.ending) c.ended.ensures ∙ ap (λ (s : Spelled). s.ending) next ∙ c.loop-part.invariant.ending

pub returns-in-Stop-clause-text : goal.returns-in-Stop-clause-text
unfolding spelled
returns-in-Stop-clause-text c =
    let next = next_part (length c.args.text.now) c.loop-part._part c.loop-part.rest.now c.part_of-meaning.result.1.now Stop (omega arith) (sym c.in-Stop.is ∙ c.part_of-meaning.ensures.meaning) c.part_of-meaning.ensures.rest in
    ends_there c.loop-part.value c.ended-in-Stop.result.text ending.Stopped _ _ (ap (λ (s : Made). s.text) c.ended-in-Stop.ensures) next c.loop-part.invariant.text

pub returns-in-Stop-clause-ending : goal.returns-in-Stop-clause-ending
unfolding spelled
returns-in-Stop-clause-ending c =
    let next = next_part (length c.args.text.now) c.loop-part._part c.loop-part.rest.now c.part_of-meaning.result.1.now Stop (omega arith) (sym c.in-Stop.is ∙ c.part_of-meaning.ensures.meaning) c.part_of-meaning.ensures.rest in
    ap (λ (s : Made). s.ending) c.ended-in-Stop.ensures ∙ ap (λ (s : Spelled). s.ending) next ∙ c.loop-part.invariant.ending

pub loop-part-preserved : goal.loop-part-preserved
loop-part-preserved c =
    let left = spelled_in (length c.args.text.now - (c.loop-part._part + 1)) c.part_of-meaning.result.1.now in
    let next = next_part (length c.args.text.now) c.loop-part._part c.loop-part.rest.now c.part_of-meaning.result.1.now (Byte c.in-Byte.byte) (omega arith) (sym c.in-Byte.is ∙ c.part_of-meaning.ensures.meaning) c.part_of-meaning.ensures.rest in
    record {
      text = byte_more c.loop-part.value c.push.new.self c.in-Byte.byte left _ _ c.in_ok-push-in-Byte.ensures.ok next c.loop-part.invariant.text;
      ending = ap (λ (s : Spelled). s.ending) next ∙ c.loop-part.invariant.ending;
    }
