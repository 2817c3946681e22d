use Rattle.std.proofs.Common.{◌+◌, drop, get_or, sym, ap, ◌∙◌, arith}
use Rattle.std.specs.Option.{option_and_then}
use Rattle.std.proofs.lemmas.List.{at_drop_more}
use Rattle.eb_bytes.specs.Text.{Text}
use Rattle.arith_syntax.specs.Constants.{at_most_64, digits_after}
use Rattle.arith_syntax.proofs.Digits.{beyond}
use Rattle.arith_syntax.proofs.constant.number_to_64.Goals as goal

pub returns-then-number-gt64 : goal.returns-then-number-gt64
returns-then-number-gt64 c =
    let text = c.args.text.now in
    let i = c.loop-byte.byte-index in
    beyond c.loop-byte.number (get_or text i 0) c.in_ok-number.field-0 (drop (i + 1) text) c.in_ok-number.ensures c.if-number-gt64.true
    ∙ ap (option_and_then at_most_64) (sym (at_drop_more (λ (t : Text). digits_after 10 c.loop-byte.number t) text i 0 (omega arith)) ∙ c.loop-byte.invariant.goes_on)
