use Rattle.std.proofs.Common.{◌+◌, drop, get_or, sym, ◌∙◌, arith}
use Rattle.std.specs.Option.{option_map}
use Rattle.std.proofs.lemmas.List.{at_drop_more}
use Rattle.eb_bytes.specs.Text.{Text}
use Rattle.arith_syntax.specs.Constants.{digits_after, low}
use Rattle.arith_syntax.proofs.Digits.{one_more}
use Rattle.arith_syntax.proofs.constant.any_digits.Goals as goal

pub loop-byte-preserved : goal.loop-byte-preserved
loop-byte-preserved c =
    let text = c.args.text.now in
    let i = c.loop-byte.byte-index in
    one_more c.args.base c.loop-byte.number (get_or text i 0) c.in_ok-digit.digit (drop (i + 1) text) c.in_ok-digit.ensures
    ∙ sym (at_drop_more (λ (t : Text). option_map low (digits_after c.args.base c.loop-byte.number t)) text i 0 (omega arith))
    ∙ c.loop-byte.invariant
