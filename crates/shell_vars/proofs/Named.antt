-- The names of a frame, seen of a tree by names.
use Rattle.std.proofs.Common.{◌≡◌, List, Some, None, Result, sym, ap, ◌∙◌, nat_cmp}
use Rattle.std.specs.Cmp.Lexicographic.{slice_cmp, nat_list_cmp_total}
use Rattle.std.specs.List.Sorted.{IsStrictlySortedBy}
use Rattle.std.specs.Map.{keys_of, lookup, remove_entry, set_value}
use Rattle.std.specs.BTreeMap.{is_at, insert_entry}
use Rattle.std.specs.FinMap as map
use Rattle.std.specs.Prelude.{OnOk, OnErr, unwrap_or}
use Rattle.std.proofs.lemmas.Map.Steps.{set_value_same}
use Rattle.std.proofs.lemmas.Result.{on_ok_weaker, on_err_weaker}
use Rattle.eb_bytes.specs.declared.bytes.Memory.{Memory}
use Rattle.eb_bytes.specs.Text.{Text}
use Rattle.shell_vars.specs.declared.binding.Binding.{Binding}
use Rattle.shell_vars.specs.Store.{Names, unset_here}
use Rattle.shell_vars.proofs.Keyed.{keyed, keyed-lookup, keyed-set, keyed-remove, keyed-insert, keyed-sorted}
use Rattle.shell_vars.proofs.NameOrder.{apart}
use Rattle.shell_vars.proofs.Ordered.{get-ordered, insert-ordered, set-ordered, remove-ordered, entries-ordered}

-- entries that are seen as the names m, f reading the bytes of a key
module _ {K : Type 0} (f : K → Text) (es : List (K × Binding)) (m : Names) (seen : map.from_entries (keyed f es) ≡ m) where
  pub binding_of : (q : Text) → lookup (is_at (λ k. slice_cmp nat_cmp q (f k))) es ≡ map.get m q
  binding_of q = keyed-lookup f (is_at (slice_cmp nat_cmp q)) es ∙ get-ordered nat_list_cmp_total (keyed f es) q ∙ ap (λ n. map.get n q) seen

  pub entries_of : IsStrictlySortedBy (λ x y. slice_cmp nat_cmp (f x) (f y)) (keys_of es) → keyed f es ≡ map.entries m
  entries_of h = sym (entries-ordered nat_list_cmp_total apart (keyed f es) (keyed-sorted f (slice_cmp nat_cmp) es h)) ∙ ap map.entries seen

  module _ (new : List (K × Binding)) where
    pub inserted : (k : K) (v : Binding) → new ≡ insert_entry (λ x y. slice_cmp nat_cmp (f x) (f y)) es k v → map.from_entries (keyed f new) ≡ map.insert m (f k) v
    inserted k v e =
        ap (λ x. map.from_entries {R = slice_cmp nat_cmp} (keyed f x)) e ∙ ap (map.from_entries {R = slice_cmp nat_cmp}) (keyed-insert f (slice_cmp nat_cmp) es k v)
        ∙ insert-ordered nat_list_cmp_total apart (keyed f es) (f k) v ∙ ap (λ n. map.insert n (f k) v) seen

    pub removed : (q : Text) → new ≡ remove_entry (is_at (λ k. slice_cmp nat_cmp q (f k))) es → lookup (is_at (λ k. slice_cmp nat_cmp q (f k))) new ≡ None → map.from_entries (keyed f new) ≡ map.remove m q
    removed q e none =
        let same : keyed f new ≡ remove_entry (is_at (slice_cmp nat_cmp q)) (keyed f es) = ap (keyed f) e ∙ keyed-remove f (is_at (slice_cmp nat_cmp q)) es in
        ap (map.from_entries {R = slice_cmp nat_cmp}) same
        ∙ remove-ordered nat_list_cmp_total apart (keyed f es) q (ap (lookup (is_at (slice_cmp nat_cmp q))) (sym same) ∙ sym (keyed-lookup f (is_at (slice_cmp nat_cmp q)) new) ∙ none)
        ∙ ap (λ n. map.remove n q) seen

    pub written : (q : Text) (v w : Binding) → Some v ≡ lookup (is_at (λ k. slice_cmp nat_cmp q (f k))) es → new ≡ set_value (is_at (λ k. slice_cmp nat_cmp q (f k))) es w → map.from_entries (keyed f new) ≡ map.insert m q w
    written q v w found e =
        ap (λ x. map.from_entries {R = slice_cmp nat_cmp} (keyed f x)) e ∙ ap (map.from_entries {R = slice_cmp nat_cmp}) (keyed-set f (is_at (slice_cmp nat_cmp q)) es w)
        ∙ set-ordered nat_list_cmp_total apart (keyed f es) q v w (sym (keyed-lookup f (is_at (slice_cmp nat_cmp q)) es) ∙ sym found) ∙ ap (λ n. map.insert n q w) seen

    -- the binding that was found was changed in place, or there was no memory for that
    module _ (q : Text) (r : Result (Unit {0}) Memory) (b w : Binding) (found : Some b ≡ lookup (is_at (λ k. slice_cmp nat_cmp q (f k))) es) (e : new ≡ set_value (is_at (λ k. slice_cmp nat_cmp q (f k))) es w) where
      pub changed_at : (change : Binding → Binding) → OnOk r (w ≡ change b) → OnOk r (map.from_entries (keyed f new) ≡ map.insert m q (change (unwrap_or (map.get m q) unset_here)))
      changed_at change h = on_ok_weaker r (λ is. written q b w found e ∙ ap (λ x. map.insert m q x) (is ∙ ap (λ o. change (unwrap_or o unset_here)) (found ∙ binding_of q))) h

      pub not_changed : OnErr r (w ≡ b) → OnErr r (map.from_entries (keyed f new) ≡ m)
      not_changed h = on_err_weaker r (λ is. ap (λ x. map.from_entries {R = slice_cmp nat_cmp} (keyed f x)) (e ∙ ap (set_value (is_at (λ k. slice_cmp nat_cmp q (f k))) es) is ∙ set_value_same (is_at (λ k. slice_cmp nat_cmp q (f k))) es b (sym found)) ∙ seen) h
