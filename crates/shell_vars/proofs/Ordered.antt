-- A `BTreeMap`, seen as a finite map.
use Rattle.std.proofs.Common.{◌≡◌, T, List, [], ◌∷◌, Option, Some, None, Bool, true, false, cond, refl, sym, ap, subst, ◌∙◌, Ordering, Less, Equal, Greater}
use Rattle.std.specs.Ordering.{eq_by_cmp, is_eq, match_ordering}
use Rattle.std.specs.Cmp.{IsTotalOrder, eq_by_cmp_equiv, alike_right}
use Rattle.std.specs.List.{AllByRecursion}
use Rattle.std.specs.List.Sorted.{IsStrictlySortedBy}
use Rattle.std.specs.Map.{keys_of, lookup, remove_entry, set_value}
use Rattle.std.specs.BTreeMap.{is_at, insert_entry}
use Rattle.std.specs.FinMap as map
use Rattle.std.specs.FinMap.{find, put, is_sorted, same_map, get-empty, get-insert, get-remove, get-from_entries, get-from_sorted, entries-from_sorted, get-entries, entries_sorted}
use Rattle.std.specs.FinMap.Entries.{by_order, below_all, find-put, find_tied}
use Rattle.std.proofs.lemmas.Map.Keys.{sorted_head, sorted_tail}
use Rattle.shell_vars.proofs.Sorted.{and_left, and_right, both, is_less, find_below}

-- a test that is repeated: the inner branch is never reached
shadowed : {A : Type 0} (b : Bool) (x y z : A) → cond b x z ≡ cond b x (cond b y z)
shadowed true x y z = refl
shadowed false x y z = refl

-- two tests of which one at most holds
swapped : {A : Type 0} (a b : Bool) (x y z : A) → (a ≡ true → b ≡ false) → cond a x (cond b y z) ≡ cond b y (cond a x z)
swapped true b x y z h = subst (λ c. x ≡ cond c y x) (sym (h refl)) refl
swapped false b x y z h = refl

tied : (r : Ordering) → is_eq r ≡ true → r ≡ Equal
tied Less e = cc
tied Equal e = refl
tied Greater e = cc

module _ {K : Type 0} {R : K → K → Ordering} (o : IsTotalOrder R) where
  -- two keys that tie compare alike
  alike : (k x q : K) → eq_by_cmp R k x ≡ true → eq_by_cmp R q k ≡ eq_by_cmp R q x
  alike k x q e = ap is_eq (alike_right o k x q (tied (R k x) e))

  -- a key that ties with k ties with none that k does not tie with
  apart_by : (k x q : K) → eq_by_cmp R k x ≡ false → eq_by_cmp R q x ≡ true → eq_by_cmp R q k ≡ false
  apart_by k x q e h = (eq_by_cmp_equiv o).congr q x k h ∙ (eq_by_cmp_equiv o).symm x k ∙ e

module _ {K X : Type 0} {R : K → K → Ordering} (o : IsTotalOrder R) where
  lookup-find : (es : List (K × X)) (q : K) → lookup (is_at (R q)) es ≡ find R q es
  lookup-find [] q = refl
  lookup-find (e ∷ es) q = ap (cond (eq_by_cmp R q e.0) (Some e.1)) (lookup-find es q)

  pub get-ordered : (es : List (K × X)) (q : K) → lookup (is_at (R q)) es ≡ map.get (map.from_entries {R = R} es) q
  get-ordered es q = lookup-find es q ∙ sym (get-from_entries o es q)

  insert_entry-put : (es : List (K × X)) (k : K) (v : X) → insert_entry R es k v ≡ put R k v es
  insert_entry-put [] k v = refl
  insert_entry-put (e ∷ es) k v = elim (R k e.0) as (λ r. match_ordering r ((k, v) ∷ e ∷ es) ((e.0, v) ∷ es) (e ∷ insert_entry R es k v) ≡ by_order r ((k, v) ∷ e ∷ es) ((e.0, v) ∷ es) (e ∷ put R k v es)) [
    | Less ↦ refl
    | Equal ↦ refl
    | Greater ↦ ap (λ t. e ∷ t) (insert_entry-put es k v)
  ]

  find-set : (es : List (K × X)) (k q : K) (v w : X) → find R k es ≡ Some v → find R q (set_value (is_at (R k)) es w) ≡ cond (eq_by_cmp R q k) (Some w) (find R q es)
  find-set [] k q v w h = cc
  find-set (e ∷ es) k q v w h = elim (eq_by_cmp R k e.0) as (λ b. eq_by_cmp R k e.0 ≡ b → cond b (Some e.1) (find R k es) ≡ Some v → find R q (cond b ((e.0, w) ∷ es) (e ∷ set_value (is_at (R k)) es w)) ≡ cond (eq_by_cmp R q k) (Some w) (find R q (e ∷ es))) [
    | true ↦ λ p is. shadowed (eq_by_cmp R q e.0) (Some w) (Some e.1) (find R q es) ∙ ap (λ b. cond b (Some w) (find R q (e ∷ es))) (sym (alike o k e.0 q p))
    | false ↦ λ p is. ap (cond (eq_by_cmp R q e.0) (Some e.1)) (find-set es k q v w is) ∙ swapped (eq_by_cmp R q e.0) (eq_by_cmp R q k) (Some e.1) (Some w) (find R q es) (apart_by o k e.0 q p)
  ] refl h

  find-removed_other : (es : List (K × X)) (k q : K) → eq_by_cmp R q k ≡ false → find R q (remove_entry (is_at (R k)) es) ≡ find R q es
  find-removed_other [] k q h = refl
  find-removed_other (e ∷ es) k q h = elim (eq_by_cmp R k e.0) as (λ b. eq_by_cmp R k e.0 ≡ b → find R q (cond b es (e ∷ remove_entry (is_at (R k)) es)) ≡ find R q (e ∷ es)) [
    | true ↦ λ p. ap (λ b. cond b (Some e.1) (find R q es)) (sym h ∙ alike o k e.0 q p)
    | false ↦ λ p. ap (cond (eq_by_cmp R q e.0) (Some e.1)) (find-removed_other es k q h)
  ] refl

  find-removed : (es : List (K × X)) (k q : K) → find R k (remove_entry (is_at (R k)) es) ≡ None → find R q (remove_entry (is_at (R k)) es) ≡ cond (eq_by_cmp R q k) None (find R q es)
  find-removed es k q h = elim (eq_by_cmp R q k) as (λ b. eq_by_cmp R q k ≡ b → find R q (remove_entry (is_at (R k)) es) ≡ cond b None (find R q es)) [
    | true ↦ λ p. sym (find_tied R o q k (tied (R q k) p) (remove_entry (is_at (R k)) es)) ∙ h
    | false ↦ λ p. find-removed_other es k q p
  ] refl

  is_sorted-ordered : (es : List (K × X)) → IsStrictlySortedBy R (keys_of es) → T (is_sorted R es)
  is_sorted-ordered [] h = tt
  is_sorted-ordered (e ∷ es) h = both _ _ (all_below e.0 es (sorted_head R e.0 (keys_of es) h)) (is_sorted-ordered es (sorted_tail R e.0 (keys_of es) h))
    where
      all_below : (k : K) (fs : List (K × X)) → AllByRecursion (λ y. R k y ≡ Less) (keys_of fs) → T (below_all R k fs)
      all_below k [] a = tt
      all_below k (f ∷ fs) a = both _ _ (is_less _ a.0) (all_below k fs a.1)

  abbrev pub put_all : List (K × X) → map.FinMap R X → map.FinMap R X
  put_all [] m = m
  put_all (e ∷ es) m = put_all es (map.insert m e.0 e.1)

  abbrev first_of : Option X → Option X → Option X
  first_of (Some x) other = Some x
  first_of None other = other

  first_none : (x : Option X) → first_of x None ≡ x
  first_none (Some x) = refl
  first_none None = refl

  get-put_all : (es : List (K × X)) (m : map.FinMap R X) (q : K) → T (is_sorted R es) → map.get (put_all es m) q ≡ first_of (find R q es) (map.get m q)
  get-put_all [] m q h = refl
  get-put_all (e ∷ es) m q h = get-put_all es (map.insert m e.0 e.1) q (and_right (below_all R e.0 es) _ h) ∙ ap (first_of (find R q es)) (get-insert o m e.0 e.1 q) ∙ by_tie (eq_by_cmp R q e.0) refl
    where
      by_tie : (b : Bool) → eq_by_cmp R q e.0 ≡ b → first_of (find R q es) (cond b (Some e.1) (map.get m q)) ≡ first_of (cond b (Some e.1) (find R q es)) (map.get m q)
      by_tie true p =
          let none : find R q es ≡ None = find_tied R o e.0 q (tied (R e.0 q) ((eq_by_cmp_equiv o).symm e.0 q ∙ p)) es ∙ find_below R e.0 es (and_left _ (is_sorted R es) h) in
          ap (λ x. first_of x (Some e.1)) none
      by_tie false p = refl

  module _ (apart : map.IsAntisymmetric R) where
    pub insert-ordered : (es : List (K × X)) (k : K) (v : X) → map.from_entries {R = R} (insert_entry R es k v) ≡ map.insert (map.from_entries es) k v
    insert-ordered es k v = ap (map.from_entries {R = R}) (insert_entry-put es k v) ∙ same_map o apart _ _ (λ q.
        get-from_entries o _ q ∙ find-put R o q k v es
        ∙ sym (get-insert o (map.from_entries es) k v q ∙ ap (cond (eq_by_cmp R q k) (Some v)) (get-from_entries o es q)))

    -- a value that was written through a borrow
    pub set-ordered : (es : List (K × X)) (k : K) (v w : X) → lookup (is_at (R k)) es ≡ Some v → map.from_entries {R = R} (set_value (is_at (R k)) es w) ≡ map.insert (map.from_entries es) k w
    set-ordered es k v w h = same_map o apart _ _ (λ q.
        get-from_entries o _ q ∙ find-set es k q v w (sym (lookup-find es k) ∙ h)
        ∙ sym (get-insert o (map.from_entries es) k w q ∙ ap (cond (eq_by_cmp R q k) (Some w)) (get-from_entries o es q)))

    pub remove-ordered : (es : List (K × X)) (k : K) → lookup (is_at (R k)) (remove_entry (is_at (R k)) es) ≡ None → map.from_entries {R = R} (remove_entry (is_at (R k)) es) ≡ map.remove (map.from_entries es) k
    remove-ordered es k h = same_map o apart _ _ (λ q.
        get-from_entries o _ q ∙ find-removed es k q (sym (lookup-find _ k) ∙ h)
        ∙ sym (get-remove o (map.from_entries es) k q ∙ ap (cond (eq_by_cmp R q k) None) (get-from_entries o es q)))

    same_from_sorted : (es : List (K × X)) → T (is_sorted R es) → map.from_entries {R = R} es ≡ map.from_sorted es
    same_from_sorted es h = same_map o apart _ _ (λ q. get-from_entries o es q ∙ sym (get-from_sorted R es q h))

    -- the entries of a map are those of the tree
    pub entries-ordered : (es : List (K × X)) → IsStrictlySortedBy R (keys_of es) → map.entries (map.from_entries {R = R} es) ≡ es
    entries-ordered es h = ap map.entries (same_from_sorted es (is_sorted-ordered es h)) ∙ entries-from_sorted R es (is_sorted-ordered es h)

    -- entries that are put into an empty map one after another, the first one first
    pub put_all-entries : (m : map.FinMap R X) → put_all (map.entries m) map.empty ≡ m
    put_all-entries m = same_map o apart _ _ (λ q.
        get-put_all (map.entries m) map.empty q (entries_sorted m) ∙ ap (first_of (find R q (map.entries m))) (get-empty R q) ∙ first_none (find R q (map.entries m)) ∙ sym (get-entries m q))
