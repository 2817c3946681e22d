use Rattle.std.proofs.Common.{◌≡◌, ◌≢◌, ℕ, Bool, true, false, length, sym, ap, ◌∙◌, arith, rules}
use Rattle.printf_format.specs.declared.escapes.Ending.TheVariants as ending
use Rattle.printf_format.specs.Conversions.{parts}
use Rattle.printf_format.specs.Formats.{Used, formatted, is_used_again}
use Rattle.printf_format.proofs.Used.{use_ends, use_goes, use_is_last}
use Rattle.printf_format.proofs.format.put_formatted.Goals as goal

pub returns-in_default : goal.returns-in_default
unfolding formatted
returns-in_default c =
    let isnt : c.in_ok-ending.ending ≢ ending.Through = search rules in
    let whole =
    use_ends (length c.args.words.now) c.loop-use._use (parts c.args.format.now) c.loop-use.drawn c.put_once.new.drawn c.loop-use.words c.put_once.new.words
    (omega arith) c.in_ok-ending.ensures.text c.in_ok-ending.ensures.left
    c.in_ok-ending.ending isnt c.in_ok-ending.ensures.ending
    ∙ c.loop-use.invariant in
    record {
      text = ap (λ (u : Used). u.text) whole;
      ending = ap (λ (u : Used). u.ending) whole;
    }

pub returns-then-not-is_used_again-clause-text : goal.returns-then-not-is_used_again-clause-text
unfolding formatted
returns-then-not-is_used_again-clause-text c =
    let no : c.is_used_again.result ≡ false = search rules in
    let last : is_used_again (length c.loop-use.words) c.put_once.new.words ≡ false = ap (λ (n : ℕ). is_used_again n c.put_once.new.words) (sym c.len-before.ensures) ∙ sym c.is_used_again.ensures ∙ no in
    ap (λ (u : Used). u.text) (use_is_last (length c.args.words.now) c.loop-use._use (parts c.args.format.now) c.loop-use.drawn c.put_once.new.drawn c.loop-use.words c.put_once.new.words
    (omega arith) c.in_ok-ending.ensures.text c.in_ok-ending.ensures.left (sym c.in-Through.is ∙ c.in_ok-ending.ensures.ending) last
    ∙ c.loop-use.invariant)

pub returns-then-not-is_used_again-clause-ending : goal.returns-then-not-is_used_again-clause-ending
unfolding formatted
returns-then-not-is_used_again-clause-ending c =
    let no : c.is_used_again.result ≡ false = search rules in
    let last : is_used_again (length c.loop-use.words) c.put_once.new.words ≡ false = ap (λ (n : ℕ). is_used_again n c.put_once.new.words) (sym c.len-before.ensures) ∙ sym c.is_used_again.ensures ∙ no in
    ap (λ (u : Used). u.ending) (use_is_last (length c.args.words.now) c.loop-use._use (parts c.args.format.now) c.loop-use.drawn c.put_once.new.drawn c.loop-use.words c.put_once.new.words
    (omega arith) c.in_ok-ending.ensures.text c.in_ok-ending.ensures.left (sym c.in-Through.is ∙ c.in_ok-ending.ensures.ending) last
    ∙ c.loop-use.invariant)

pub loop-use-preserved : goal.loop-use-preserved
loop-use-preserved c =
    let yes : c.is_used_again.result ≡ true = search rules in
    let again : is_used_again (length c.loop-use.words) c.put_once.new.words ≡ true = ap (λ (n : ℕ). is_used_again n c.put_once.new.words) (sym c.len-before.ensures) ∙ sym c.is_used_again.ensures ∙ yes in
    use_goes (length c.args.words.now) c.loop-use._use (parts c.args.format.now) c.loop-use.drawn c.put_once.new.drawn c.loop-use.words c.put_once.new.words
    (omega arith) c.in_ok-ending.ensures.text c.in_ok-ending.ensures.left (sym c.in-Through.is ∙ c.in_ok-ending.ensures.ending) again
    ∙ c.loop-use.invariant
