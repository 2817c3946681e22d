use Rattle.std.proofs.Common.{◌≡◌, ◌-◌, ◌+◌, ◌++◌, [], ◌∷◌, take, drop, length, ap, sym, ◌∙◌, append_assoc, append-nil, arith}
use Rattle.eb_bytes.specs.Text.{Text}
use Rattle.eb_grammar.specs.declared.ansi.Meaning.TheVariants.{Byte, Nothing, Refused}
use Rattle.eb_grammar.specs.AnsiText.{ansi_text, made, parts_from}
use Rattle.eb_grammar.proofs.AnsiParts.{last_part, other_part}
use Rattle.eb_grammar.proofs.ansi.ansi_text.Goals.{in-Byte+in_ok-push-in-Byte, in-Nothing, in-Refused+in_ok-extend-in-Refused}
use Rattle.eb_grammar.proofs.ansi.ansi_text.Goals as goal

pub returns-in-End : goal.returns-in-End
unfolding ansi_text
returns-in-End c =
    sym (append-nil c.loop-part.value)
    ∙ last_part (λ ms. c.loop-part.value ++ made ms) c.args.text.now c.loop-part.rest.now c.loop-part._part c.part_of-meaning.result (omega arith)
    c.part_of-meaning.ensures.part c.in-End.is
    ∙ c.loop-part.invariant

pub loop-part-preserved : goal.loop-part-preserved
loop-part-preserved c =
    let text = c.args.text.now in
    let rest = c.loop-part.rest.now in
    let value = c.loop-part.value in
    let len = c.part_of-meaning.result.1 in
    let left : Text = made (parts_from (length text - (c.loop-part._part + 1)) (take (length rest - len) (drop len rest))) in
    elim c.match-meaning.branch [
      | in-Byte+in_ok-push-in-Byte w ↦
          let pushed : c.match-meaning.value ≡ value ++ w.in-Byte.byte ∷ [] = w.value-is ∙ w.in_ok-push-in-Byte.ensures.ok in
          ap (λ (v : Text). v ++ left) pushed
          ∙ append_assoc value (w.in-Byte.byte ∷ []) left
          ∙ other_part (λ ms. value ++ made ms) text rest c.loop-part._part c.part_of-meaning.result (omega arith)
          c.part_of-meaning.ensures.part (Byte w.in-Byte.byte) w.in-Byte.is c.part_of-meaning.ensures.within
          ∙ c.loop-part.invariant
      | in-Nothing w ↦
          ap (λ (v : Text). v ++ left) w.value-is
          ∙ other_part (λ ms. value ++ made ms) text rest c.loop-part._part c.part_of-meaning.result (omega arith)
          c.part_of-meaning.ensures.part Nothing w.in-Nothing.is c.part_of-meaning.ensures.within
          ∙ c.loop-part.invariant
      | in-Refused+in_ok-extend-in-Refused w ↦
          let extended : c.match-meaning.value ≡ value ++ 92 ∷ w.in-Refused.letter ∷ [] = w.value-is ∙ w.in_ok-extend-in-Refused.ensures.ok in
          ap (λ (v : Text). v ++ left) extended
          ∙ append_assoc value (92 ∷ w.in-Refused.letter ∷ []) left
          ∙ other_part (λ ms. value ++ made ms) text rest c.loop-part._part c.part_of-meaning.result (omega arith)
          c.part_of-meaning.ensures.part (Refused w.in-Refused.letter) w.in-Refused.is c.part_of-meaning.ensures.within
          ∙ c.loop-part.invariant
    ]
