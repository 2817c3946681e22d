-- The elements of an array, seen of a tree by indices.
use Rattle.std.proofs.Common.{◌≡◌, ℕ, ◌<◌, Bool, true, false, cond, List, [], ◌∷◌, ◌++◌, Some, None, Result, Ok, Err, refl, sym, ap, ◌∙◌, arith, nat_cmp, Less, Equal, Greater}
use Rattle.std.specs.Prelude.{IsTrue, OnOk, OnErr, unwrap_or}
use Rattle.std.specs.Cmp.{nat_cmp_total}
use Rattle.std.specs.List.Sorted.{IsStrictlySortedBy}
use Rattle.std.specs.Map.{keys_of, lookup, remove_entry, set_value}
use Rattle.std.specs.Ordering.{match_ordering}
use Rattle.std.specs.BTreeMap.{is_at, insert_entry}
use Rattle.std.specs.FinMap as map
use Rattle.std.specs.FinMap.{nat_cmp-IsAntisymmetric}
use Rattle.std.proofs.lemmas.Bool.Decides.{nat_tests}
use Rattle.std.proofs.lemmas.Map.Steps.{set_value_same}
use Rattle.std.proofs.lemmas.Result.{on_ok_weaker, on_err_weaker}
use Rattle.eb_bytes.specs.declared.bytes.Memory.{Memory}
use Rattle.eb_bytes.specs.Text.{Text}
use Rattle.shell_vars.specs.Elements.{Elements, have_indices, is_index}
use Rattle.shell_vars.proofs.Ordered.{put_all, get-ordered, insert-ordered, set-ordered, remove-ordered, entries-ordered}
use Rattle.shell_vars.proofs.Sorted.{and_true, and_first, and_second}

-- the first of some entries, and those after it
pub first_index : (es rest : List (ℕ × Text)) (e : ℕ × Text) → es ≡ e ∷ rest → IsTrue (have_indices es) → e.0 < 9223372036854775808
first_index es rest e first h =
    let here : IsTrue (is_index e.0) = and_first (is_index e.0) (have_indices rest) (sym (ap have_indices first) ∙ h) in
    grind (arith, nat_tests)

pub later_indices : (es rest : List (ℕ × Text)) (e : ℕ × Text) → es ≡ e ∷ rest → IsTrue (have_indices es) → IsTrue (have_indices rest)
later_indices es rest e first h = and_second (is_index e.0) (have_indices rest) (sym (ap have_indices first) ∙ h)

-- one more entry was copied
pub copied_more : (m : Elements) (es rest : List (ℕ × Text)) (k : ℕ) (v : Text) (copy new : Elements) → es ≡ (k, v) ∷ rest → put_all nat_cmp_total es copy ≡ m → new ≡ map.insert copy k v → put_all nat_cmp_total rest new ≡ m
copied_more m es rest k v copy new first whole e = ap (put_all nat_cmp_total rest) e ∙ ap (λ x. put_all nat_cmp_total x copy) (sym first) ∙ whole

small : (n : ℕ) → n < 9223372036854775808 → IsTrue (is_index n)
small n h = grind (arith, nat_tests)

have_inserted : (es : List (ℕ × Text)) (k : ℕ) (v : Text) → IsTrue (is_index k) → IsTrue (have_indices es) → IsTrue (have_indices (insert_entry nat_cmp es k v))
have_inserted [] k v here h = and_true (is_index k) true here refl
have_inserted (e ∷ es) k v here h = elim (nat_cmp k e.0) as (λ r. IsTrue (have_indices (match_ordering r ((k, v) ∷ e ∷ es) ((e.0, v) ∷ es) (e ∷ insert_entry nat_cmp es k v)))) [
  | Less ↦ and_true (is_index k) _ here h
  | Equal ↦ h
  | Greater ↦ and_true (is_index e.0) _ (and_first (is_index e.0) _ h) (have_inserted es k v here (and_second (is_index e.0) _ h))
]

have_removed : (test : ℕ → Bool) (es : List (ℕ × Text)) → IsTrue (have_indices es) → IsTrue (have_indices (remove_entry test es))
have_removed test [] h = refl
have_removed test (e ∷ es) h = elim (test e.0) as (λ b. IsTrue (have_indices (cond b es (e ∷ remove_entry test es)))) [
  | true ↦ and_second (is_index e.0) _ h
  | false ↦ and_true (is_index e.0) _ (and_first (is_index e.0) _ h) (have_removed test es (and_second (is_index e.0) _ h))
]

have_set : (test : ℕ → Bool) (es : List (ℕ × Text)) (w : Text) → IsTrue (have_indices es) → IsTrue (have_indices (set_value test es w))
have_set test [] w h = refl
have_set test (e ∷ es) w h = elim (test e.0) as (λ b. IsTrue (have_indices (cond b ((e.0, w) ∷ es) (e ∷ set_value test es w)))) [
  | true ↦ h
  | false ↦ and_true (is_index e.0) _ (and_first (is_index e.0) _ h) (have_set test es w (and_second (is_index e.0) _ h))
]

-- entries that are seen as the elements m
module _ (es : List (ℕ × Text)) (m : Elements) (seen : map.from_entries es ≡ m) where
  pub value_at : (k : ℕ) → lookup (is_at (nat_cmp k)) es ≡ map.get m k
  value_at k = get-ordered nat_cmp_total es k ∙ ap (λ n. map.get n k) seen

  pub entries_of : IsStrictlySortedBy nat_cmp (keys_of es) → es ≡ map.entries m
  entries_of h = sym (entries-ordered nat_cmp_total nat_cmp-IsAntisymmetric es h) ∙ ap map.entries seen

  module _ (new : List (ℕ × Text)) (k : ℕ) where
    pub inserted : (v : Text) → new ≡ insert_entry nat_cmp es k v → map.from_entries new ≡ map.insert m k v
    inserted v e = ap (map.from_entries {R = nat_cmp}) e ∙ insert-ordered nat_cmp_total nat_cmp-IsAntisymmetric es k v ∙ ap (λ n. map.insert n k v) seen

    pub inserted_have : (v : Text) → new ≡ insert_entry nat_cmp es k v → k < 9223372036854775808 → IsTrue (have_indices es) → IsTrue (have_indices new)
    inserted_have v e l h = ap have_indices e ∙ have_inserted es k v (small k l) h

    -- whether an insertion was made or failed
    pub insert_keeps : {A E : Type 0} (v : Text) (r : Result A E) → OnOk r (new ≡ insert_entry nat_cmp es k v) → OnErr r (new ≡ es) → k < 9223372036854775808 → IsTrue (have_indices es) → IsTrue (have_indices new)
    insert_keeps v (Ok x) e u l h = inserted_have v e l h
    insert_keeps v (Err x) e u l h = ap have_indices u ∙ h

    pub removed : new ≡ remove_entry (is_at (nat_cmp k)) es → lookup (is_at (nat_cmp k)) new ≡ None → map.from_entries new ≡ map.remove m k
    removed e none = ap (map.from_entries {R = nat_cmp}) e ∙ remove-ordered nat_cmp_total nat_cmp-IsAntisymmetric es k (ap (lookup (is_at (nat_cmp k))) (sym e) ∙ none) ∙ ap (λ n. map.remove n k) seen

    pub removed_have : new ≡ remove_entry (is_at (nat_cmp k)) es → IsTrue (have_indices es) → IsTrue (have_indices new)
    removed_have e h = ap have_indices e ∙ have_removed (is_at (nat_cmp k)) es h

    pub written : (v w : Text) → Some v ≡ lookup (is_at (nat_cmp k)) es → new ≡ set_value (is_at (nat_cmp k)) es w → map.from_entries new ≡ map.insert m k w
    written v w h e = ap (map.from_entries {R = nat_cmp}) e ∙ set-ordered nat_cmp_total nat_cmp-IsAntisymmetric es k v w (sym h) ∙ ap (λ n. map.insert n k w) seen

    pub written_have : (w : Text) → new ≡ set_value (is_at (nat_cmp k)) es w → IsTrue (have_indices es) → IsTrue (have_indices new)
    written_have w e h = ap have_indices e ∙ have_set (is_at (nat_cmp k)) es w h

    -- more bytes were put at the end of the text that was found, or there was no memory for them
    module _ (r : Result (Unit {0}) Memory) (text more w : Text) (found : Some text ≡ lookup (is_at (nat_cmp k)) es) (e : new ≡ set_value (is_at (nat_cmp k)) es w) where
      pub extended : OnOk r (w ≡ text ++ more) → OnOk r (map.from_entries new ≡ map.insert m k (unwrap_or (map.get m k) [] ++ more))
      extended h = on_ok_weaker r (λ is. written text w found e ∙ ap (λ t. map.insert m k t) (is ∙ ap (λ o. unwrap_or o [] ++ more) (found ∙ value_at k))) h

      pub not_extended : OnErr r (w ≡ text) → OnErr r (map.from_entries new ≡ m)
      not_extended h = on_err_weaker r (λ is. ap (map.from_entries {R = nat_cmp}) (e ∙ ap (set_value (is_at (nat_cmp k)) es) is ∙ set_value_same (is_at (nat_cmp k)) es text (sym found)) ∙ seen) h
