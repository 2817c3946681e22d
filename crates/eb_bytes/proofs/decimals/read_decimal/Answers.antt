use Rattle.std.proofs.Common.{◌≡◌, ℕ, List, [], ◌∷◌, true, false, Some, Ok, nat_eq, refl, sym, subst, ap, ◌∙◌}
use Rattle.std.proofs.Common.{decimal as decimal_text}
use Rattle.std.specs.Result.{result_ok}
use Rattle.std.specs.Str.{IsUtf8}
use Rattle.std.specs.Cmp.Lexicographic.{pointwise}
use Rattle.std.proofs.lemmas.Str.{IsUtf8-from_ascii}
use Rattle.std.proofs.lemmas.Fmt.{IsAscii-decimal, parse-decimal}
use Rattle.std.proofs.lemmas.Bool.{eq-eqb}
use Rattle.eb_bytes.proofs.Results.{err_is, if_none, ok_is}
use Rattle.eb_bytes.proofs.decimals.read_decimal.Goals as goal

pointwise_same : (xs ys : List ℕ) → xs ≡ ys → pointwise nat_eq xs ys ≡ true
pointwise_same [] [] e = refl
pointwise_same [] (y ∷ ys) e = cc
pointwise_same (x ∷ xs) [] e = cc
pointwise_same (x ∷ xs) (y ∷ ys) e =
    let head : x ≡ y = cc in
    let tail : xs ≡ ys = cc in
    rw (eq-eqb x y head) (pointwise_same xs ys tail)

elim_false : false ≡ true → ⊥
elim_false e = cc

-- a number's digits are text
pub returns-in_err-ok-clause-none : goal.returns-in_err-ok-clause-none
returns-in_err-ok-clause-none c = if_none c.from_residual.result _ (λ number small is.
    let P : List ℕ → Type 0 = λ t. IsUtf8 t in
    err_is c.from_utf8.result _ _ _ (sym c.ok.ensures.value ∙ c.in_err-ok.was) c.from_utf8.ensures.cases (subst P (sym is) (IsUtf8-from_ascii _ (IsAscii-decimal number small))))

-- and are read as that number
pub returns-in_err-number-clause-none : goal.returns-in_err-number-clause-none
returns-in_err-number-clause-none c = if_none c.from_residual-in_err-number.result _ (λ number small is.
    let text = ok_is c.from_utf8.result c.in_ok-ok.field-0 _ _ (sym c.ok.ensures.value ∙ c.in_ok-ok.was) c.from_utf8.ensures.cases in
    let read : c.parse.result ≡ Ok number = parse-decimal 64 number _ _ small small (text.0 ∙ is) c.parse.ensures.value.0 in
    let some : result_ok c.parse.result ≡ Some number = ap result_ok read in
    let none = sym c.ok-2.ensures.value ∙ c.in_err-number.was in
    absurd (cc))

pub returns-else-eq-clause-none : goal.returns-else-eq-clause-none
returns-else-eq-clause-none c = λ number small is.
    let text = ok_is c.from_utf8.result c.in_ok-ok.field-0 _ _ (sym c.ok.ensures.value ∙ c.in_ok-ok.was) c.from_utf8.ensures.cases in
    let read : c.parse.result ≡ Ok number = parse-decimal 64 number _ _ small small (text.0 ∙ is) c.parse.ensures.value.0 in
    let given : Some c.in_ok-number.number ≡ Some number = sym (c.in_ok-number.was) ∙ c.ok-2.ensures.value ∙ ap result_ok read in
    let same : c.in_ok-number.number ≡ number = cc in
    let printed : c.as_bytes.result.now ≡ c.args.text.now = c.as_bytes.ensures.value ∙ c.format.ensures.text ∙ ap decimal_text same ∙ sym is in
    elim_false (sym c.if-eq.false ∙ c.eq.ensures ∙ pointwise_same _ _ printed)
