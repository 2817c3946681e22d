-- The zeros at the end of a text.
use Rattle.std.proofs.Common.{◌≡◌, ℕ, ◌-◌, ◌<◌, ◌≤◌, false, [], ◌∷◌, ◌++◌, length, reverse, take, drop, get_or, suc, refl, ap, sym, ◌∙◌, arith}
use Rattle.std.proofs.Math.Seq.{drop-cons}
use Rattle.std.proofs.lemmas.List.{drop_all, reverse-append, reverse-reverse, take-append-drop}
use Rattle.eb_bytes.specs.Text.{Text}
use Rattle.byte_class.specs.Class.{is_zero}
use Rattle.version_funcs.specs.Byte.{after_while}
use Rattle.version_funcs.specs.Order.{without_last_zeros}
use Rattle.version_funcs.proofs.Runs.{after_while-goes_on, after_while-stops}

-- a text is what stands before its last byte, and that byte
last-split : (t : Text) → 1 ≤ length t → t ≡ take (length t - 1) t ++ get_or t (length t - 1) 0 ∷ []
last-split t some =
    let n = length t - 1 in
    let within : length t - 1 < length t = omega arith in
    let nothing : drop (suc (length t - 1)) t ≡ [] = drop_all (suc (length t - 1)) t (omega arith) in
    let last : drop (length t - 1) t ≡ get_or t (length t - 1) 0 ∷ [] = drop-cons t (length t - 1) 0 within ∙ ap (λ (u : Text). get_or t (length t - 1) 0 ∷ u) nothing in
    sym (take-append-drop (length t - 1) t) ∙ ap (λ (u : Text). take (length t - 1) t ++ u) last

reverse-last : (t : Text) → 1 ≤ length t → reverse t ≡ get_or t (length t - 1) 0 ∷ reverse (take (length t - 1) t)
reverse-last t some = ap reverse (last-split t some) ∙ reverse-append (take (length t - 1) t) (get_or t (length t - 1) 0 ∷ [])

pub without_last_zeros-zero : (t : Text) → 1 ≤ length t → get_or t (length t - 1) 0 ≡ 48 → without_last_zeros (take (length t - 1) t) ≡ without_last_zeros t
without_last_zeros-zero t some zero_digit =
    let backwards : reverse t ≡ 48 ∷ reverse (take (length t - 1) t) = reverse-last t some ∙ ap (λ (b : ℕ). b ∷ reverse (take (length t - 1) t)) zero_digit in
    sym (ap (λ (u : Text). reverse (after_while is_zero u)) backwards ∙ ap reverse (after_while-goes_on is_zero 48 (reverse (take (length t - 1) t)) refl))

pub without_last_zeros-other : (t : Text) → 1 ≤ length t → is_zero (get_or t (length t - 1) 0) ≡ false → without_last_zeros t ≡ t
without_last_zeros-other t some other =
    ap (λ (u : Text). reverse (after_while is_zero u)) (reverse-last t some)
    ∙ ap reverse (after_while-stops is_zero (get_or t (length t - 1) 0) (reverse (take (length t - 1) t)) other)
    ∙ ap reverse (sym (reverse-last t some))
    ∙ reverse-reverse t
