-- How many elements there are, and whether joined texts are nothing.
use Rattle.std.proofs.Common.{◌≡◌, ℕ, suc, List, [], ◌∷◌, ◌++◌, append_assoc, ap, decimal, length, map, refl, sym, ◌∙◌, arith}
use Rattle.std.proofs.lemmas.Bool.{ne_eqb}
use Rattle.std.proofs.lemmas.List.{length-map}
use Rattle.std.specs.FinMap as finite
use Rattle.std.specs.FinMap.{len-entries}
use Rattle.std.specs.List.{join_with_byte}
use Rattle.std.specs.Prelude.{◌&&◌, not, ◌==◌}
use Rattle.eb_bytes.specs.Text.{Text, has_bytes}
use Rattle.shell_vars.specs.Elements.{Elements}
use Rattle.word_meaning.specs.Marks.{has_elements}

-- an array has as many texts as elements
pub counted : (es : Elements) → length (finite.values es) ≡ finite.len es
counted es = length-map (finite.entries es) (λ e. e.1) ∙ sym (len-entries es)

-- a list has no elements where their number is 0
pub none_there : (ts : List Text) → not (has_elements ts) ≡ (length ts == 0)
none_there [] = refl
none_there (t ∷ ts) = sym (ne_eqb (suc (length ts)) 0 (λ e. omega arith))

-- texts with a blank between each two are nothing where there is only one, which is nothing
pub nothing_joined : (t : Text) (ts : List Text) → not (has_bytes (join_with_byte 32 (t ∷ ts))) ≡ (not (has_bytes t) && not (has_elements ts))
nothing_joined [] [] = refl
nothing_joined (b ∷ t) [] = refl
nothing_joined [] (u ∷ us) = refl
nothing_joined (b ∷ t) (u ∷ us) = refl

-- one element more of those that are left is put
pub put_more : {A B : Type 0} (f : A → B) (done more : List B) (e : A) (es left : List A) (all : List B) → left ≡ e ∷ es → more ≡ done ++ f e ∷ []
    → done ++ map f left ≡ all → more ++ map f es ≡ all
put_more f done more e es left all h g i =
    ap (λ m. m ++ map f es) g ∙ append_assoc done (f e ∷ []) (map f es) ∙ ap (λ l. done ++ map f l) (sym h) ∙ i

-- the texts of the first parts of pairs
firsts : (es : List (ℕ × Text)) → map (λ e. decimal e.0) es ≡ map decimal (map (λ e. e.0) es)
firsts [] = refl
firsts (e ∷ es) = ap (λ ts. decimal e.0 ∷ ts) (firsts es)

-- no index is put yet
pub no_index_yet : (left es : List (ℕ × Text)) → left ≡ es → [] ++ map (λ e. decimal e.0) left ≡ map decimal (map (λ e. e.0) es)
no_index_yet left es h = ap (map (λ e. decimal e.0)) h ∙ firsts es
