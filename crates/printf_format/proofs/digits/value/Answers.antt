use Rattle.std.proofs.Common.{◌≡◌, ℕ, ◌+◌, ◌*◌, ◌^◌, None, drop, get_or, sym, ap, ◌∙◌, arith}
use Rattle.std.proofs.lemmas.List.{at_drop_all, at_drop_more}
use Rattle.eb_bytes.specs.Text.{Text}
use Rattle.printf_format.specs.Digits.{below, value_from}
use Rattle.printf_format.proofs.Values.{is_below, is_over}
use Rattle.printf_format.proofs.digits.value.Goals as goal

pub returns : goal.returns
returns c =
    let all = at_drop_all (λ (t : Text). value_from c.args.radix c.loop-digit.value t) c.args.digits.now c.loop-digit.digit-index (omega arith) in
    is_below (2 ^ 64) c.loop-digit.value (value_from c.args.radix 0 c.args.digits.now) (sym all ∙ c.loop-digit.invariant.value) c.loop-digit.invariant.fits

pub returns-in-None : goal.returns-in-None
returns-in-None c =
    let digits = c.args.digits.now in
    let i = c.loop-digit.digit-index in
    is_over c.args.radix c.loop-digit.value _ (get_or digits i 0) (drop (i + 1) digits) c.requires c.digit_value.ensures c.in-None.ensures
    ∙ ap (λ (n : ℕ). below (2 ^ 64) n) (sym (at_drop_more (λ (t : Text). value_from c.args.radix c.loop-digit.value t) digits i 0 (omega arith)) ∙ c.loop-digit.invariant.value)

pub loop-digit-preserved : goal.loop-digit-preserved
loop-digit-preserved c =
    let digits = c.args.digits.now in
    let i = c.loop-digit.digit-index in
    record {
      value =
          ap (λ (n : ℕ). value_from c.args.radix n (drop (i + 1) digits)) (c.in-Some.ensures.1 ∙ ap (λ (d : ℕ). c.loop-digit.value * c.args.radix + d) c.digit_value.ensures)
          ∙ sym (at_drop_more (λ (t : Text). value_from c.args.radix c.loop-digit.value t) digits i 0 (omega arith))
          ∙ c.loop-digit.invariant.value;
      fits = let is = c.in-Some.ensures.1 in let low = c.in-Some.ensures.0 in omega arith;
    }
