-- What a break parts.
use Rattle.std.proofs.Common.{◌≡◌, Bool, true, false, List, [], ◌∷◌, ◌++◌, refl, ap}
use Rattle.std.specs.Prelude.{◌||◌}
use Rattle.shell_marks.specs.declared.marked.Mark.{Mark}
use Rattle.shell_marks.specs.declared.marked.Mark.TheVariants.{Break}
use Rattle.eb_bytes.specs.Text.{Text}
use Rattle.bash_split.specs.declared.role.Role.{Role}
use Rattle.bash_split.specs.declared.role.Role.TheVariants.{Part, Blank, Separator, Border}
use Rattle.bash_split.specs.Fields.{role, is_part, is_joined, begins_with_part, separator_is_next, leads_to_separator, fields, fields_from}
use Rattle.bash_split.specs.Pass.{rest_of}
use Rattle.bash_split.proofs.Passing.{empty-first}

-- ---- what a break hides

next-apart : (ifs : Text) (ms ns : List Mark) → separator_is_next ifs (ms ++ Break ∷ ns) ≡ separator_is_next ifs ms
next-apart ifs [] ns = refl
next-apart ifs (m ∷ ms) ns = ap (λ (later : Bool). leads_to_separator (role ifs m) later) (next-apart ifs ms ns)

begins-apart : (ifs : Text) (ms ns : List Mark) → begins_with_part ifs (ms ++ Break ∷ ns) ≡ begins_with_part ifs ms
begins-apart ifs [] ns = refl
begins-apart ifs (m ∷ ms) ns = refl

joined-apart : (ifs : Text) (ms ns : List Mark) → is_joined ifs (ms ++ Break ∷ ns) ≡ is_joined ifs ms
joined-apart ifs ms ns = rw (begins-apart ifs ms ns, next-apart ifs ms ns) refl

-- ---- a list that a part is joined to has a field

record HasField (fs : List (List Mark)) : Type 0 where
  first : List Mark
  rest : List (List Mark)
  is : fs ≡ first ∷ rest

has_field : (ifs : Text) (ms : List Mark) → is_joined ifs ms ≡ true → HasField (fields ifs ms)
has_field ifs [] joins = absurd (cc)
has_field ifs (m ∷ ms) joins = by_role (role ifs m) (is_joined ifs ms) (fields ifs ms) joins (empty-first ifs ms)
  where
    by_role : (r : Role) (next : Bool) (fs : List (List Mark)) → (is_part r || leads_to_separator r (separator_is_next ifs ms)) ≡ true → (separator_is_next ifs ms ≡ true → fs ≡ [] ∷ rest_of fs) → HasField (fields_from r m next fs)
    by_role Part true [] joins empty = record { first = m ∷ []; rest = []; is = refl }
    by_role Part true (f ∷ fs) joins empty = record { first = m ∷ f; rest = fs; is = refl }
    by_role Part false fs joins empty = record { first = m ∷ []; rest = fs; is = refl }
    by_role Separator next fs joins empty = record { first = []; rest = fs; is = refl }
    by_role Blank next fs joins empty = record { first = []; rest = rest_of fs; is = empty joins }
    by_role Border next fs joins empty = absurd (cc)

-- ---- the fields on both sides

pub fields-apart : (ifs : Text) (ms ns : List Mark) → fields ifs (ms ++ Break ∷ ns) ≡ fields ifs ms ++ fields ifs ns
fields-apart ifs [] ns = refl
fields-apart ifs (m ∷ ms) ns = rw (joined-apart ifs ms ns, fields-apart ifs ms ns) (by_role (role ifs m) (is_joined ifs ms) (fields ifs ms) (has_field ifs ms))
  where
    by_role : (r : Role) (next : Bool) (fs : List (List Mark)) → (next ≡ true → HasField fs) → fields_from r m next (fs ++ fields ifs ns) ≡ fields_from r m next fs ++ fields ifs ns
    by_role Part true fs some = let found = some refl in rw found.is refl
    by_role Part false fs some = refl
    by_role Separator next fs some = refl
    by_role Blank next fs some = refl
    by_role Border next fs some = refl
