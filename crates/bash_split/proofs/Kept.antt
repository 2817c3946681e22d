-- What stays in the fields of a list of marks.
use Rattle.std.proofs.Common.{◌≡◌, Bool, true, false, List, [], ◌∷◌, filter, cond, refl, ap}
use Rattle.std.proofs.lemmas.Bool.{and_parts}
use Rattle.std.specs.List.{flat_map, list_all}
use Rattle.shell_marks.specs.declared.marked.Mark.{Mark}
use Rattle.shell_marks.specs.declared.marked.Mark.TheVariants.{Literal, Result, Quoted, Empty, Break}
use Rattle.eb_bytes.specs.Text.{Text}
use Rattle.bash_split.specs.declared.role.Role.{Role}
use Rattle.bash_split.specs.declared.role.Role.TheVariants.{Part, Blank, Separator, Border}
use Rattle.bash_split.specs.Fields.{role, is_part, is_joined, fields, fields_from}
use Rattle.bash_split.specs.Laws.{stays, is_fixed}

-- ---- the marks of all fields

pub flat-fields : (ifs : Text) (ms : List Mark) → flat_map (λ (f : List Mark). f) (fields ifs ms) ≡ filter (stays ifs) ms
flat-fields ifs [] = refl
flat-fields ifs (m ∷ ms) = by_role (role ifs m) (is_joined ifs ms) (fields ifs ms) (flat-fields ifs ms)
  where
    by_role : (r : Role) (next : Bool) (fs : List (List Mark)) → flat_map (λ (f : List Mark). f) fs ≡ filter (stays ifs) ms → flat_map (λ (f : List Mark). f) (fields_from r m next fs) ≡ cond (is_part r) (m ∷ filter (stays ifs) ms) (filter (stays ifs) ms)
    by_role Part true [] rest = ap (λ (l : List Mark). m ∷ l) rest
    by_role Part true (f ∷ fs) rest = ap (λ (l : List Mark). m ∷ l) rest
    by_role Part false fs rest = ap (λ (l : List Mark). m ∷ l) rest
    by_role Separator next fs rest = rest
    by_role Blank next fs rest = rest
    by_role Border next fs rest = rest

-- ---- what no field holds

pub each-stays : (ifs : Text) (ms : List Mark) → list_all (λ (f : List Mark). list_all (stays ifs) f) (fields ifs ms) ≡ true
each-stays ifs [] = refl
each-stays ifs (m ∷ ms) = by_role (role ifs m) refl (is_joined ifs ms) (fields ifs ms) (each-stays ifs ms)
  where
    by_role : (r : Role) → role ifs m ≡ r → (next : Bool) (fs : List (List Mark)) → list_all (λ (f : List Mark). list_all (stays ifs) f) fs ≡ true → list_all (λ (f : List Mark). list_all (stays ifs) f) (fields_from r m next fs) ≡ true
    by_role Part e true [] rest = rw e refl
    by_role Part e true (f ∷ fs) rest = rw e rest
    by_role Part e false fs rest = rw e rest
    by_role Separator e next fs rest = rest
    by_role Blank e next fs rest = rest
    by_role Border e next fs rest = rest

-- ---- marks that all stay

pub one-field : (ifs : Text) (m : Mark) (ms : List Mark) → list_all (stays ifs) (m ∷ ms) ≡ true → fields ifs (m ∷ ms) ≡ (m ∷ ms) ∷ []
one-field ifs m [] all = by_role (role ifs m) (and_parts (is_part (role ifs m)) true all).0
  where
    by_role : (r : Role) → is_part r ≡ true → fields_from r m false [] ≡ (m ∷ []) ∷ []
    by_role Part stay = refl
    by_role Blank stay = absurd (cc)
    by_role Separator stay = absurd (cc)
    by_role Border stay = absurd (cc)
one-field ifs m (n ∷ ms) all =
    let split = and_parts (is_part (role ifs m)) (list_all (stays ifs) (n ∷ ms)) all in
    let next = and_parts (is_part (role ifs n)) (list_all (stays ifs) ms) split.1 in
    by_role (role ifs m) (is_joined ifs (n ∷ ms)) (fields ifs (n ∷ ms)) split.0 (rw next.0 refl) (one-field ifs n ms split.1)
  where
    by_role : (r : Role) (next : Bool) (fs : List (List Mark)) → is_part r ≡ true → next ≡ true → fs ≡ (n ∷ ms) ∷ [] → fields_from r m next fs ≡ (m ∷ n ∷ ms) ∷ []
    by_role Part next fs stay joins rest = rw (joins, rest) refl
    by_role Blank next fs stay joins rest = absurd (cc)
    by_role Separator next fs stay joins rest = absurd (cc)
    by_role Border next fs stay joins rest = absurd (cc)

fixed-stays : (ifs : Text) (m : Mark) → is_fixed m ≡ true → stays ifs m ≡ true
fixed-stays ifs (Literal b) fixed = refl
fixed-stays ifs (Quoted b) fixed = refl
fixed-stays ifs Empty fixed = refl
fixed-stays ifs (Result b) fixed = absurd (cc)
fixed-stays ifs Break fixed = absurd (cc)

pub all-fixed : (ifs : Text) (ms : List Mark) → list_all is_fixed ms ≡ true → list_all (stays ifs) ms ≡ true
all-fixed ifs [] all = refl
all-fixed ifs (m ∷ ms) all =
    let split = and_parts (is_fixed m) (list_all is_fixed ms) all in
    let here : is_part (role ifs m) ≡ true = fixed-stays ifs m split.0 in
    rw here (all-fixed ifs ms split.1)
