use Rattle.std.proofs.Common.{◌+◌, ◌%◌, drop, get_or, sym, ◌∙◌, arith}
use Rattle.std.proofs.lemmas.List.{at_drop_more}
use Rattle.eb_bytes.specs.Text.{Text}
use Rattle.eb_grammar.specs.AnsiText.{value_from}
use Rattle.eb_grammar.proofs.AnsiParts.{one_more}
use Rattle.eb_grammar.proofs.ansi.number.Goals as goal

pub loop-digit-preserved : goal.loop-digit-preserved
loop-digit-preserved c =
    let digits = c.args.digits.now in
    let i = c.loop-digit.digit-index in
    one_more c.args.radix c.loop-digit.number (get_or digits i 0) _ (drop (i + 1) digits) c.digit_value.ensures
    ∙ sym (at_drop_more (λ (t : Text). value_from c.args.radix c.loop-digit.number t % 256) digits i 0 (omega arith))
    ∙ c.loop-digit.invariant
