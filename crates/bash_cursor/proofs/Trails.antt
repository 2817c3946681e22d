-- Lists that are made of runs.
use Rattle.std.proofs.Common.{◌≡◌, List, [], ◌∷◌, ◌++◌, ap, ◌∙◌, append-nil}
use Rattle.std.specs.List.{flat_map}
use Rattle.std.proofs.lemmas.Grind.{flat_map-append}

module _ {A : Type 0} where
  -- one more run
  pub flat_snoc : (runs : List (List A)) (run : List A) → flat_map (λ run. run) (runs ++ run ∷ []) ≡ flat_map (λ run. run) runs ++ run
  flat_snoc runs run = flat_map-append (λ run. run) runs (run ∷ []) ∙ ap (λ end. flat_map (λ run. run) runs ++ end) (append-nil run)
