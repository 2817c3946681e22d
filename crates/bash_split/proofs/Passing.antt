-- The pass over the marks.
use Rattle.std.proofs.Common.{◌≡◌, Bool, true, false, List, [], ◌∷◌, ◌++◌, append_assoc, refl, ap}
use Rattle.std.proofs.lemmas.List.{append-nil}
use Rattle.std.specs.Prelude.{if◌then◌else◌}
use Rattle.shell_marks.specs.declared.marked.Mark.{Mark}
use Rattle.eb_bytes.specs.Text.{Text}
use Rattle.bash_split.specs.declared.role.Role.{Role}
use Rattle.bash_split.specs.declared.role.Role.TheVariants.{Part, Blank, Separator, Border}
use Rattle.bash_split.specs.declared.place.Place.TheVariants.{Within}
use Rattle.bash_split.specs.Fields.{role, is_joined, separator_is_next, fields, leads_to_separator, fields_from}
use Rattle.bash_split.specs.Pass.{fields_left, onto_first_all, rest_of}

-- a mark more of a field that is begun
onto-more : (begun : List Mark) (m : Mark) (joined : Bool) (rest : List (List Mark)) → (if joined then onto_first_all (begun ++ m ∷ []) rest else (begun ++ m ∷ []) ∷ rest) ≡ onto_first_all begun (fields_from Part m joined rest)
onto-more begun m true [] = refl
onto-more begun m true (part ∷ parts) = ap (λ (f : List Mark). f ∷ parts) (append_assoc begun (m ∷ []) part)
onto-more begun m false rest = refl

pub part-within : (ifs : Text) (begun more : List Mark) (m : Mark) (ms : List Mark) → role ifs m ≡ Part → more ≡ begun ++ m ∷ [] → fields_left ifs (Within more) ms ≡ fields_left ifs (Within begun) (m ∷ ms)
part-within ifs begun more m ms is_part grown = rw (grown, is_part) (onto-more begun m (is_joined ifs ms) (fields ifs ms))

-- where a separator is next, it ends an empty field
pub empty-first : (ifs : Text) (ms : List Mark) → separator_is_next ifs ms ≡ true → fields ifs ms ≡ [] ∷ rest_of (fields ifs ms)
empty-first ifs [] next = absurd (cc)
empty-first ifs (m ∷ ms) next = by_role (role ifs m) next (empty-first ifs ms)
  where
    by_role : (r : Role) → leads_to_separator r (separator_is_next ifs ms) ≡ true → (separator_is_next ifs ms ≡ true → fields ifs ms ≡ [] ∷ rest_of (fields ifs ms)) → fields_from r m (is_joined ifs ms) (fields ifs ms) ≡ [] ∷ rest_of (fields_from r m (is_joined ifs ms) (fields ifs ms))
    by_role Part next later = absurd (cc)
    by_role Border next later = absurd (cc)
    by_role Separator next later = refl
    by_role Blank next later = later next

pub blank-within : (ifs : Text) (begun : List Mark) (ended more : List (List Mark)) (m : Mark) (ms : List Mark) → role ifs m ≡ Blank → more ≡ ended ++ begun ∷ [] → more ++ (if separator_is_next ifs ms then rest_of (fields ifs ms) else fields ifs ms) ≡ ended ++ fields_left ifs (Within begun) (m ∷ ms)
blank-within ifs begun ended more m ms is_blank grown = rw (grown, is_blank, append_assoc) (ap (λ (fs : List (List Mark)). ended ++ fs) (ends (separator_is_next ifs ms) (fields ifs ms) (empty-first ifs ms)))
  where
    ends : (next : Bool) (fs : List (List Mark)) → (next ≡ true → fs ≡ [] ∷ rest_of fs) → begun ∷ (if next then rest_of fs else fs) ≡ (if next then onto_first_all begun fs else begun ∷ fs)
    ends false fs empty = refl
    ends true [] empty = absurd (let e : [] ≡ [] ∷ [] = empty refl in cc)
    ends true (part ∷ parts) empty =
        let whole : part ∷ parts ≡ [] ∷ parts = empty refl in
        let bare : part ≡ [] = cc in
        rw (bare, append-nil begun) refl
