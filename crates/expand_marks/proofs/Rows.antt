-- Items that are put in a row, with something before each.
use Rattle.std.proofs.Common.{◌≡◌, List, ◌∷◌, ◌++◌, append_assoc, ap, sym, ◌∙◌}
use Rattle.std.specs.List.{flat_map}

-- a turn that puts what stands between and the next item at the end
pub row-turn : {A X : Type 0} (f : X → List A) (sep done before more all : List A) (x : X) (left xs : List X)
    → before ≡ done ++ sep → more ≡ before ++ f x → left ≡ x ∷ xs
    → done ++ flat_map (λ y. sep ++ f y) left ≡ all → more ++ flat_map (λ y. sep ++ f y) xs ≡ all
row-turn f sep done before more all x left xs e g h i =
    let grown : more ≡ done ++ sep ++ f x = cc in
    ap (λ m. m ++ flat_map (λ y. sep ++ f y) xs) grown ∙ by ∙ ap (λ ys. done ++ flat_map (λ y. sep ++ f y) ys) (sym h) ∙ i
  where
    by : ((done ++ sep ++ f x) ++ flat_map (λ y. sep ++ f y) xs) ≡ (done ++ flat_map (λ y. sep ++ f y) (x ∷ xs))
    by = simp append_assoc
