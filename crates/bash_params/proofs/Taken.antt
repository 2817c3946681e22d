-- How many texts a slice takes.
use Rattle.std.proofs.Common.{◌≡◌, ℕ, zero, suc, ◌+◌, ◌-◌, ◌<◌, ◌≤◌, Bool, true, false, List, [], ◌∷◌, ◌++◌, length, take, drop, Option, Some, Ok, refl, sym, ap, ◌∙◌, arith, append_assoc, length-drop}
use Rattle.std.specs.Prelude.{ℤ, nat_le, map as map_list, filter, if◌then◌else◌}
use Rattle.std.specs.FinMap as map
use Rattle.std.specs.FinMap.{len-entries}
use Rattle.std.proofs.lemmas.Bool.{le-leb}
use Rattle.eb_bytes.specs.Text.{Text}
use Rattle.shell_vars.specs.Elements.{Elements, next_index}
use Rattle.bash_params.specs.Cut.{limited, list_from, list_sliced, place, sliced, texts_from}

-- a text more of those that may be taken
pub taken_more : (start left at : ℕ) (text : Text) (es more : List (ℕ × Text)) (old new whole : List Text) → es ≡ (at, text) ∷ more → start ≤ at → 0 < left → new ≡ old ++ text ∷ [] → old ++ take left (texts_from (Some start) es) ≡ whole → new ++ take (left - 1) (texts_from (Some start) more) ≡ whole
taken_more start zero at text es more old new whole first late some is_new is = absurd (omega arith)
taken_more start (suc n) at text es more old new whole first late some is_new is =
    let chosen : texts_from (Some start) es ≡ text ∷ texts_from (Some start) more = ap (texts_from (Some start)) first ∙ rw (le-leb start at late) refl in
    let one_less : suc n - 1 ≡ n = omega arith in
    ap (λ (ts : List Text). ts ++ take (suc n - 1) (texts_from (Some start) more)) is_new
    ∙ ap (λ (k : ℕ). (old ++ text ∷ []) ++ take k (texts_from (Some start) more)) one_less
    ∙ append_assoc old (text ∷ []) (take n (texts_from (Some start) more))
    ∙ ap (λ (ts : List Text). old ++ take (suc n) ts) (sym chosen)
    ∙ is

-- there are not more texts than elements
chosen_few : (start : ℕ) (es : List (ℕ × Text)) → length (texts_from (Some start) es) ≤ length es
chosen_few start [] = omega arith
chosen_few start (e ∷ es) = by_test (nat_le start e.0) (chosen_few start es)
  where
    by_test : (late : Bool) → length (texts_from (Some start) es) ≤ length es → length (map_list (λ (p : ℕ × Text). p.1) (if late then e ∷ filter (λ (p : ℕ × Text). nat_le start p.0) es else filter (λ (p : ℕ × Text). nat_le start p.0) es)) ≤ length (e ∷ es)
    by_test true few = omega (arith, few)
    by_test false few = omega (arith, few)

-- a length, as a number of texts
abbrev pub Limits : Option ℤ → ℕ → ℕ → Type 0
Limits len all most = (ts : List Text) → length ts ≤ all → limited len ts ≡ Ok (take most ts)

pub slice_is : (from : ℤ) (len : Option ℤ) (es : Elements) (found : Option ℕ) (start all most : ℕ) → all ≡ map.len es → Limits len all most → found ≡ place (next_index es) from → found ≡ Some start → sliced from len es ≡ Ok (take most (texts_from (Some start) (map.entries es)))
slice_is from len es found start all most counted limits is_place is_found =
    let short : length (texts_from (Some start) (map.entries es)) ≤ all = omega (arith, chosen_few start (map.entries es), len-entries es, counted) in
    ap (λ (o : Option ℕ). limited len (texts_from o (map.entries es))) (sym is_place ∙ is_found) ∙ limits (texts_from (Some start) (map.entries es)) short

pub list_is : (from : ℤ) (len : Option ℤ) (zeroth : Text) (ts : List Text) (found : Option ℕ) (start all most : ℕ) → all ≡ length ts + 1 → Limits len all most → found ≡ place all from → found ≡ Some start → 0 < start → list_sliced from len (zeroth ∷ ts) ≡ Ok (take most (drop (start - 1) ts))
list_is from len zeroth ts found zero all most counted limits is_place is_found later = absurd (omega arith)
list_is from len zeroth ts found (suc n) all most counted limits is_place is_found later =
    let long : length (zeroth ∷ ts) ≡ all = omega arith in
    let short : length (drop n ts) ≤ all = omega (arith, length-drop n ts) in
    let one_less : suc n - 1 ≡ n = omega arith in
    ap (λ (k : ℕ). limited len (list_from (place k from) (zeroth ∷ ts))) long
    ∙ ap (λ (o : Option ℕ). limited len (list_from o (zeroth ∷ ts))) (sym is_place ∙ is_found)
    ∙ limits (drop n ts) short
    ∙ ap (λ (k : ℕ). Ok (take most (drop k ts))) (sym one_less)
