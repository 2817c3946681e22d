-- Lists of words, one of which has one word.
use Rattle.std.proofs.Common.{◌≡◌, List, [], ◌∷◌, ◌++◌, length, map, refl, sym, ap, ◌∙◌, append_assoc, get_or, arith}
use Rattle.std.proofs.lemmas.List.{append-nil}
use Rattle.bash_braces.specs.Values.{joined}

pub joined_one : {P : Type 0} (w : List P) (after : List (List P)) → joined (w ∷ []) after ≡ map (λ (v : List P). w ++ v) after
joined_one {P} w after = append-nil (map (λ (v : List P). w ++ v) after)

pub one_joined : {P : Type 0} (before : List (List P)) (v : List P) → joined before (v ∷ []) ≡ map (λ (w : List P). w ++ v) before
one_joined [] v = refl
one_joined (w ∷ before) v = ap (λ rest. (w ++ v) ∷ rest) (one_joined before v)

pub joined_more : {P : Type 0} (all : List (List P)) (w : List P) (before after : List (List P)) → (all ++ map (λ (v : List P). w ++ v) after) ++ joined before after ≡ all ++ joined (w ∷ before) after
joined_more {P} all w before after = append_assoc all (map (λ (v : List P). w ++ v) after) (joined before after)

pub joined_step : {P : Type 0} (all more : List (List P)) (w : List P) (before rest after shared with_word : List (List P)) → before ≡ w ∷ rest → shared ≡ after → with_word ≡ map (λ (v : List P). w ++ v) shared → more ≡ all ++ with_word → more ++ joined rest after ≡ all ++ joined before after
joined_step {P} all more w before rest after shared with_word first same put added =
    let put_all : with_word ≡ map (λ (v : List P). w ++ v) after = put ∙ ap (map (λ (v : List P). w ++ v)) same in
    ap (λ ws. ws ++ joined rest after) (added ∙ ap (λ ws. all ++ ws) put_all) ∙ joined_more all w rest after ∙ ap (λ ws. all ++ joined ws after) (sym first)

-- a list of one word
pub joined_only : {P : Type 0} (before after : List (List P)) (v : List P) → length after ≡ 1 → v ≡ get_or after 0 v → joined before after ≡ map (λ (w : List P). w ++ v) before
joined_only before [] v one here = absurd (omega arith)
joined_only {P} before (w ∷ []) v one here = ap (λ u. joined before (u ∷ [])) (sym here) ∙ one_joined before v
joined_only before (w ∷ u ∷ after) v one here = absurd (omega arith)
