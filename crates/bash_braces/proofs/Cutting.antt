-- Going over a text to its first `..`.
use Rattle.std.proofs.Common.{◌≡◌, ℕ, ◌+◌, ◌-◌, ◌<◌, true, false, List, [], ◌∷◌, ◌++◌, length, get_or, take, drop, refl, sym, ap, ◌∙◌, append_assoc, add-one, drop-cons}
use Rattle.std.specs.Prelude.{Option, Some, None}
use Rattle.std.proofs.lemmas.List.{take_more, append-nil, length-drop}
use Rattle.std.proofs.Math.Seq.{take-length}
use Rattle.eb_bytes.specs.Text.{Text}
use Rattle.bash_braces.specs.Sequences.{begins_with_dots, cut, onto_left}

-- bytes before what stands before the dots
abbrev pub onto_all : Text → Option (Text × Text) → Option (Text × Text)
onto_all t None = None
onto_all t (Some (a, b)) = Some (t ++ a, b)

onto-more : (t : Text) (b : ℕ) (r : Option (Text × Text)) → onto_all (t ++ b ∷ []) r ≡ onto_all t (onto_left b r)
onto-more t b None = refl
onto-more t b (Some (a, c)) = ap (λ (u : Text). Some (u, c)) (append_assoc t (b ∷ []) a)

-- a text from a place on, as code takes it
pub rest_whole : {X : Type 0} (xs : List X) (i : ℕ) → take (length xs - i) (drop i xs) ≡ drop i xs
rest_whole xs i = rw (sym (length-drop i xs)) (take-length (drop i xs))

step : (t : Text) (b : ℕ) (rest : Text) → begins_with_dots (b ∷ rest) ≡ false → cut (b ∷ rest) ≡ onto_left b (cut rest)
step t b rest other = rw other refl

here : (b : ℕ) (rest : Text) → begins_with_dots (b ∷ rest) ≡ true → cut (b ∷ rest) ≡ Some ([], drop 1 rest)
here b rest found = rw found refl

pub cut_more : (t : Text) (i : ℕ) → i < length t → begins_with_dots (drop i t) ≡ false → onto_all (take (i + 1) t) (cut (drop (i + 1) t)) ≡ onto_all (take i t) (cut (drop i t))
cut_more t i within other =
    let whole : drop i t ≡ get_or t i 0 ∷ drop (i + 1) t = rw add-one (drop-cons t i 0 within) in
    let at : cut (drop i t) ≡ onto_left (get_or t i 0) (cut (drop (i + 1) t)) = rw whole (step t (get_or t i 0) (drop (i + 1) t) (rw whole at other)) in
    rw (take_more t i 0 within) (onto-more (take i t) (get_or t i 0) (cut (drop (i + 1) t)) ∙ ap (onto_all (take i t)) (sym at))

pub cut_here : (t : Text) (i : ℕ) → i < length t → begins_with_dots (drop i t) ≡ true → onto_all (take i t) (cut (drop i t)) ≡ Some (take i t, drop 2 (drop i t))
cut_here t i within found =
    let whole : drop i t ≡ get_or t i 0 ∷ drop (i + 1) t = rw add-one (drop-cons t i 0 within) in
    let at : cut (drop i t) ≡ Some ([], drop 2 (drop i t)) = rw whole (here (get_or t i 0) (drop (i + 1) t) (rw whole at found)) in
    ap (onto_all (take i t)) at ∙ ap (λ (u : Text). Some (u, drop 2 (drop i t))) (append-nil (take i t))
