-- Texts as a walk sees them.
use Rattle.std.proofs.Common.{◌≡◌, ◌==◌, ℕ, suc, ◌+◌, ◌-◌, ◌<◌, ◌≤◌, get_or, [], ◌∷◌, ◌++◌, length, take, drop, reverse, Some, refl, ap, sym, ◌∙◌, arith, length-drop}
use Rattle.std.proofs.lemmas.List.{drop_at, drop_more, take_more, length-reverse, reverse-append, take-append-drop}
use Rattle.std.proofs.lemmas.Bool.{ne_eqb}
use Rattle.eb_bytes.specs.Text.{Text}
use Rattle.bash_patterns.specs.declared.way.Way.{Way}
use Rattle.bash_patterns.specs.declared.way.Way.TheVariants.{Backward, Forward}
use Rattle.bash_patterns.specs.Facing.{facing, first_byte}
use Rattle.bash_patterns.specs.Matching.{is_empty}
use Rattle.bash_patterns.proofs.Mirrored.{is_empty-reverse}

-- the last bytes of a text read from its end are its first bytes
pub drop-reverse : (t : Text) (n : ℕ) → n ≤ length t → reverse (take n t) ≡ drop (length t - n) (reverse t)
drop-reverse t n h =
    let whole : reverse t ≡ reverse (drop n t) ++ reverse (take n t) = ap reverse (sym (take-append-drop n t)) ∙ reverse-append (take n t) (drop n t) in
    let long : length (reverse (drop n t)) ≡ length t - n = length-reverse (drop n t) ∙ length-drop n t in
    sym (ap (drop (length t - n)) whole ∙ drop_at (reverse (drop n t)) (reverse (take n t)) (length t - n) long)

pub byte_back : (t : Text) (n : ℕ) → n < length t → drop (length t - n - 1) t ≡ get_or t (length t - 1 - n) 0 ∷ drop (length t - n) t
byte_back t n h =
    let first : length t - n - 1 ≡ length t - 1 - n = omega arith in
    let rest : length t - 1 - n + 1 ≡ length t - n = omega arith in
    ap (λ k. drop k t) first ∙ drop_more t (length t - 1 - n) 0 (omega arith) ∙ ap (λ k. get_or t (length t - 1 - n) 0 ∷ drop k t) rest

pub byte_forth : (t : Text) (n : ℕ) → n < length t → drop (length t - n - 1) (reverse t) ≡ get_or t n 0 ∷ drop (length t - n) (reverse t)
byte_forth t n h =
    let last : length t - n - 1 ≡ length t - (n + 1) = omega arith in
    ap (λ k. drop k (reverse t)) last ∙ sym (drop-reverse t (n + 1) (omega arith)) ∙ ap reverse (take_more t n 0 h) ∙ reverse-append (take n t) (get_or t n 0 ∷ []) ∙ ap (λ v. get_or t n 0 ∷ v) (drop-reverse t n (omega arith))

pub last-byte : (t : Text) (b : ℕ) → first_byte (reverse (t ++ b ∷ [])) ≡ Some b
last-byte t b = ap first_byte (reverse-append t (b ∷ []))

empty-length : (t : Text) → (length t == 0) ≡ is_empty t
empty-length [] = refl
empty-length (b ∷ t) = ne_eqb (suc (length t)) 0 (λ e. omega arith)

pub empty-facing : (w : Way) (t : Text) → (length t == 0) ≡ is_empty (facing w t)
unfolding facing
empty-facing Backward t = empty-length t
empty-facing Forward t = empty-length t ∙ sym (is_empty-reverse t)

pub facing_length : (w : Way) (t : Text) → length (facing w t) ≡ length t
unfolding facing
facing_length Backward t = refl
facing_length Forward t = length-reverse t
