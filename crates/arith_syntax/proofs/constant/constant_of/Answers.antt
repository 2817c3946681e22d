use Rattle.std.proofs.Common.{◌≡◌, ℕ, ℤ, Option, Some, None, refl, ap, ◌∙◌, rules, FitsSigned}
use Rattle.std.proofs.lemmas.Int.{to_z-of_z}
use Rattle.std.specs.Int.{cast_signed, int_wrap, w64}
use Rattle.std.specs.Option.{option_map}
use Rattle.eb_bytes.specs.Text.{Text}
use Rattle.arith_syntax.specs.Constants.{constant_of, low, wrapped, written}
use Rattle.arith_syntax.proofs.constant.constant_of.Goals as goal

signed : (w : Text) (n : ℕ) (z : ℤ) → z ≡ cast_signed w64 n → Some n ≡ option_map low (written w) → Some z ≡ constant_of w
unfolding constant_of int_wrap
signed w n z is e = on (written w) e
  where
    on : (o : Option ℕ) → Some n ≡ option_map low o → Some z ≡ option_map wrapped o
    on None e = absurd (cc)
    on (Some m) e = let bits : n ≡ low m = cc in ap Some (is ∙ ap (cast_signed w64) bits)

unsigned : (w : Text) → None ≡ option_map low (written w) → None ≡ constant_of w
unfolding constant_of
unsigned w e = on (written w) e
  where
    on : (o : Option ℕ) → None ≡ option_map low o → None ≡ option_map wrapped o
    on None e = refl
    on (Some m) e = absurd (cc)

pub returns-in-Some : goal.returns-in-Some
returns-in-Some c =
    let fits : FitsSigned w64 c.cast_signed.result = search rules in
    signed c.args.word.now c.in-Some.number _ (to_z-of_z w64 c.cast_signed.result fits ∙ c.cast_signed.ensures) c.in-Some.ensures

pub returns-in-None : goal.returns-in-None
returns-in-None c = unsigned c.args.word.now c.in-None.ensures
