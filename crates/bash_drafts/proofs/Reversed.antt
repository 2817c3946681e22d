-- Lists that are emptied from their end: what was found, and what is left.
use Rattle.std.proofs.Common.{◌≡◌, List, [], ◌∷◌, ◌++◌, map, ap, sym, ◌∙◌, append_assoc, append-nil}
use Rattle.std.specs.Prelude.{reverse}
use Rattle.std.proofs.lemmas.List.{map-append, reverse-append}

module _ {A : Type 0} (rest old : List A) (x : A) (is : old ≡ rest ++ x ∷ []) where
  last_first : reverse old ≡ x ∷ reverse rest
  last_first = ap reverse is ∙ reverse-append rest (x ∷ [])

  -- one more is turned round
  pub turned : (found : List A) → (found ++ x ∷ []) ++ reverse rest ≡ found ++ reverse old
  turned found = append_assoc found (x ∷ []) (reverse rest) ∙ ap (λ xs. found ++ xs) (sym last_first)

  -- and what f makes of it stands before what was made of those after it
  pub mapped_turn : {B : Type 0} (f : A → B) (found : List B) → map f rest ++ reverse (found ++ f x ∷ []) ≡ map f old ++ reverse found
  mapped_turn f found =
      ap (λ xs. map f rest ++ xs) (reverse-append found (f x ∷ []))
      ∙ sym (append_assoc (map f rest) (f x ∷ []) (reverse found))
      ∙ ap (λ xs. xs ++ reverse found) (sym (ap (map f) is ∙ map-append f rest (x ∷ [])))

-- none is left
pub turned_all : {A : Type 0} (found rest : List A) → rest ≡ [] → found ++ reverse rest ≡ found
turned_all found rest none = ap (λ xs. found ++ reverse xs) none ∙ append-nil found

pub mapped_end : {A B : Type 0} (f : A → B) (found : List B) (rest : List A) → rest ≡ [] → map f rest ++ reverse found ≡ reverse found
mapped_end f found rest none = ap (λ xs. map f xs ++ reverse found) none

-- none was found yet
pub mapped_start : {A B : Type 0} (f : A → B) (found : List B) (all : List A) → found ≡ [] → map f all ++ reverse found ≡ map f all
mapped_start f found all none = ap (λ xs. map f all ++ reverse xs) none ∙ append-nil (map f all)
