-- Lists whose marks stay or are separators: each separator ends a field.
use Rattle.std.proofs.Common.{◌≡◌, Bool, true, false, not, cond, List, [], ◌∷◌, refl, sym, ap, ◌∙◌}
use Rattle.std.specs.Prelude.{◌||◌}
use Rattle.std.specs.List.{list_all, slice_split, onto_first}
use Rattle.shell_marks.specs.declared.marked.Mark.{Mark}
use Rattle.eb_bytes.specs.Text.{Text}
use Rattle.bash_split.specs.declared.role.Role.{Role}
use Rattle.bash_split.specs.declared.role.Role.TheVariants.{Part, Blank, Separator, Border}
use Rattle.bash_split.specs.Fields.{role, is_part, is_joined, fields, fields_from}
use Rattle.bash_split.specs.Laws.{stays, divides, is_separator, is_separator_role, has_marks, without_empty_end}
use Rattle.std.proofs.lemmas.Bool.{and_parts}

-- the parts of such a list: the first of them is dropped only where there are no marks at all
record FirstPart (ifs : Text) (ms : List Mark) : Type 0 where
  first : List Mark
  rest : List (List Mark)
  is : slice_split (divides ifs) ms ≡ first ∷ rest
  kept : without_empty_end (first ∷ rest) ≡ cond (has_marks ms) (first ∷ without_empty_end rest) []
  joins : is_joined ifs ms ≡ has_marks ms
  clear : has_marks ms ≡ false → first ≡ []

first_part : (ifs : Text) (ms : List Mark) → list_all (λ m. stays ifs m || is_separator ifs m) ms ≡ true → FirstPart ifs ms
first_part ifs [] each = record { first = []; rest = []; is = refl; kept = refl; joins = refl; clear = λ none. refl }
first_part ifs (m ∷ ms) each =
    let split = and_parts (stays ifs m || is_separator ifs m) (list_all (λ m. stays ifs m || is_separator ifs m) ms) each in
    by_role (role ifs m) refl split.0 (first_part ifs ms split.1)
  where
    by_role : (r : Role) → role ifs m ≡ r → (is_part r || is_separator_role r) ≡ true → FirstPart ifs ms → FirstPart ifs (m ∷ ms)
    by_role Part e ok part = record { first = m ∷ part.first; rest = part.rest; is = rw (e, part.is) refl; kept = refl; joins = rw e refl; clear = λ none. absurd (cc) }
    by_role Separator e ok part = record { first = []; rest = part.first ∷ part.rest; is = rw (e, part.is) refl; kept = refl; joins = rw e refl; clear = λ none. refl }
    by_role Blank e ok part = absurd (cc)
    by_role Border e ok part = absurd (cc)

pub parts-fields : (ifs : Text) (ms : List Mark) → list_all (λ m. stays ifs m || is_separator ifs m) ms ≡ true → fields ifs ms ≡ without_empty_end (slice_split (divides ifs) ms)
parts-fields ifs [] each = refl
parts-fields ifs (m ∷ ms) each =
    let split = and_parts (stays ifs m || is_separator ifs m) (list_all (λ m. stays ifs m || is_separator ifs m) ms) each in
    let part = first_part ifs ms split.1 in
    let rest : fields ifs ms ≡ cond (has_marks ms) (part.first ∷ without_empty_end part.rest) [] = parts-fields ifs ms split.1 ∙ ap without_empty_end part.is ∙ part.kept in
    rw (part.is, part.joins, rest) (by_role (role ifs m) split.0 (has_marks ms) part.first part.rest part.kept part.clear)
  where
    by_role : (r : Role) → (is_part r || is_separator_role r) ≡ true → (some : Bool) (first : List Mark) (rest : List (List Mark)) → without_empty_end (first ∷ rest) ≡ cond some (first ∷ without_empty_end rest) [] → (some ≡ false → first ≡ []) → fields_from r m some (cond some (first ∷ without_empty_end rest) []) ≡ without_empty_end (cond (not (is_part r)) ([] ∷ first ∷ rest) (onto_first m (first ∷ rest)))
    by_role Part ok true first rest kept clear = refl
    by_role Part ok false first rest kept clear = none_left first rest kept (clear refl)
      where
        none_left : (first : List Mark) (rest : List (List Mark)) → without_empty_end (first ∷ rest) ≡ [] → first ≡ [] → (m ∷ []) ∷ [] ≡ (m ∷ first) ∷ without_empty_end rest
        none_left first [] kept bare = rw bare refl
        none_left [] (part ∷ parts) kept bare = absurd (cc)
        none_left (n ∷ ns) (part ∷ parts) kept bare = absurd (cc)
    by_role Separator ok some first rest kept clear = ap (λ (fs : List (List Mark)). [] ∷ fs) (sym kept)
    by_role Blank ok some first rest kept clear = absurd (cc)
    by_role Border ok some first rest kept clear = absurd (cc)
