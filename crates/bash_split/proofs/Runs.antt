-- Lists without separators: the fields are runs between the marks that divide.
use Rattle.std.proofs.Common.{◌≡◌, Bool, true, false, not, cond, List, [], ◌∷◌, filter, refl, ap, ◌∙◌}
use Rattle.std.specs.Prelude.{◌||◌}
use Rattle.std.specs.List.{list_all, slice_split, onto_first}
use Rattle.shell_marks.specs.declared.marked.Mark.{Mark}
use Rattle.shell_marks.specs.declared.marked.Mark.TheVariants.{Literal, Result, Quoted, Empty, Break}
use Rattle.eb_bytes.specs.Text.{Text}
use Rattle.bash_split.specs.declared.role.Role.{Role}
use Rattle.bash_split.specs.declared.role.Role.TheVariants.{Part, Blank, Separator, Border}
use Rattle.bash_split.specs.Fields.{role, is_part, is_joined, begins_with_part, separator_is_next, leads_to_separator, fields, fields_from}
use Rattle.bash_split.specs.Laws.{divides, is_separator, is_separator_role, is_break, has_marks}
use Rattle.std.proofs.lemmas.Bool.{and_parts}

-- ---- no separator is next

none-next : (ifs : Text) (ms : List Mark) → list_all (λ m. not (is_separator ifs m)) ms ≡ true → separator_is_next ifs ms ≡ false
none-next ifs [] none = refl
none-next ifs (m ∷ ms) none =
    let split = and_parts (not (is_separator ifs m)) (list_all (λ m. not (is_separator ifs m)) ms) none in
    by_role (role ifs m) split.0 (none-next ifs ms split.1)
  where
    by_role : (r : Role) → not (is_separator_role r) ≡ true → separator_is_next ifs ms ≡ false → leads_to_separator r (separator_is_next ifs ms) ≡ false
    by_role Part other later = refl
    by_role Separator other later = absurd (cc)
    by_role Blank other later = later
    by_role Border other later = refl

-- ---- the first run

pub record FirstRun (ifs : Text) (ms : List Mark) : Type 0 where
  pub first : List Mark
  pub rest : List (List Mark)
  pub is : slice_split (divides ifs) ms ≡ first ∷ rest
  pub begins : has_marks first ≡ begins_with_part ifs ms

pub first_run : (ifs : Text) (ms : List Mark) → FirstRun ifs ms
first_run ifs [] = record { first = []; rest = []; is = refl; begins = refl }
first_run ifs (m ∷ ms) = by_role (role ifs m) refl (slice_split (divides ifs) ms) refl
  where
    by_role : (r : Role) → role ifs m ≡ r → (runs : List (List Mark)) → slice_split (divides ifs) ms ≡ runs → FirstRun ifs (m ∷ ms)
    by_role Part e [] s = record { first = m ∷ []; rest = []; is = rw (e, s) refl; begins = rw e refl }
    by_role Part e (run ∷ runs) s = record { first = m ∷ run; rest = runs; is = rw (e, s) refl; begins = rw e refl }
    by_role Blank e runs s = record { first = []; rest = runs; is = rw (e, s) refl; begins = rw e refl }
    by_role Separator e runs s = record { first = []; rest = runs; is = rw (e, s) refl; begins = rw e refl }
    by_role Border e runs s = record { first = []; rest = runs; is = rw (e, s) refl; begins = rw e refl }

-- ---- the fields are the runs

pub runs-fields : (ifs : Text) (ms : List Mark) → list_all (λ m. not (is_separator ifs m)) ms ≡ true → fields ifs ms ≡ filter has_marks (slice_split (divides ifs) ms)
runs-fields ifs [] none = refl
runs-fields ifs (m ∷ ms) none =
    let split = and_parts (not (is_separator ifs m)) (list_all (λ m. not (is_separator ifs m)) ms) none in
    let run = first_run ifs ms in
    let rest : fields ifs ms ≡ filter has_marks (run.first ∷ run.rest) = runs-fields ifs ms split.1 ∙ ap (λ (rs : List (List Mark)). filter has_marks rs) run.is in
    let joins : is_joined ifs ms ≡ has_marks run.first = rw (none-next ifs ms split.1, ← run.begins) (or_false (has_marks run.first)) in
    rw (run.is, joins, rest) (by_role (role ifs m) split.0 run.first run.rest)
  where
    or_false : (b : Bool) → (b || false) ≡ b
    or_false true = refl
    or_false false = refl

    by_role : (r : Role) → not (is_separator_role r) ≡ true → (first : List Mark) (rest : List (List Mark)) → fields_from r m (has_marks first) (filter has_marks (first ∷ rest)) ≡ filter has_marks (cond (not (is_part r)) ([] ∷ first ∷ rest) (onto_first m (first ∷ rest)))
    by_role Part other [] rest = refl
    by_role Part other (n ∷ ns) rest = refl
    by_role Separator other first rest = absurd (cc)
    by_role Blank other first rest = refl
    by_role Border other first rest = refl

-- ---- an empty IFS

split-same : (p q : Mark → Bool) → ((m : Mark) → p m ≡ q m) → (ms : List Mark) → slice_split p ms ≡ slice_split q ms
split-same p q same [] = refl
split-same p q same (m ∷ ms) = rw (same m, split-same p q same ms) refl

nothing-divides : (m : Mark) → divides [] m ≡ is_break m
nothing-divides (Literal b) = refl
nothing-divides (Result b) = refl
nothing-divides (Quoted b) = refl
nothing-divides Empty = refl
nothing-divides Break = refl

none-separates : (ms : List Mark) → list_all (λ m. not (is_separator [] m)) ms ≡ true
none-separates [] = refl
none-separates (m ∷ ms) = by_mark m (none-separates ms)
  where
    by_mark : (m : Mark) → list_all (λ m. not (is_separator [] m)) ms ≡ true → list_all (λ m. not (is_separator [] m)) (m ∷ ms) ≡ true
    by_mark (Literal b) rest = rest
    by_mark (Result b) rest = rest
    by_mark (Quoted b) rest = rest
    by_mark Empty rest = rest
    by_mark Break rest = rest

pub breaks-fields : (ms : List Mark) → fields [] ms ≡ filter has_marks (slice_split is_break ms)
breaks-fields ms = runs-fields [] ms (none-separates ms) ∙ ap (λ (rs : List (List Mark)). filter has_marks rs) (split-same (divides []) is_break nothing-divides ms)
