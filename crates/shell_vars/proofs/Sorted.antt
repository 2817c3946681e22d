-- Finite maps as lists of entries whose keys rise, and sums over them.
use Rattle.std.proofs.Common.{◌≡◌, ℕ, ◌+◌, Bool, true, false, cond, not, T, List, [], ◌∷◌, Option, Some, None, refl, sym, ap, subst, ◌∙◌, arith, Ordering, Less, Equal, Greater}
use Rattle.std.specs.Prelude.{IsTrue, ◌&&◌, sum_by}
use Rattle.std.specs.Option.{option_map_or}
use Rattle.std.specs.Ordering.{eq_by_cmp, is_eq, is_lt}
use Rattle.std.specs.Cmp.{IsTotalOrder, eq_by_cmp_equiv, alike_right}
use Rattle.std.specs.FinMap as map
use Rattle.std.specs.FinMap.{find, put, is_sorted, same_map, same_entries_map, get-remove, get-from_sorted, entries-from_sorted, entries-insert, get-entries, entries_sorted}
use Rattle.std.specs.FinMap.Entries.{where_key, below_all, by_order, is_sorted-where_key, find-where_key}
use Rattle.std.proofs.lemmas.List.Sums.{sum_by-cons}

turned : {A : Type 0} (b : Bool) (x y : A) → cond (not b) x y ≡ cond b y x
turned true x y = refl
turned false x y = refl

pub is_less_from : (r : Ordering) → T (is_lt r) → r ≡ Less
is_less_from Less h = refl
is_less_from Equal h = absurd h
is_less_from Greater h = absurd h

pub and_left : (a b : Bool) → T (a && b) → T a
and_left true b h = tt
and_left false b h = h

pub and_right : (a b : Bool) → T (a && b) → T b
and_right true b h = h
and_right false b h = absurd h

pub both : (a b : Bool) → T a → T b → T (a && b)
both true b h k = k
both false b h k = h

pub is_less : (r : Ordering) → r ≡ Less → T (is_lt r)
is_less r e = subst (λ x. T (is_lt x)) (sym e) tt

pub and_true : (a b : Bool) → IsTrue a → IsTrue b → IsTrue (a && b)
and_true true b h k = k
and_true false b h k = h

pub and_first : (a b : Bool) → IsTrue (a && b) → IsTrue a
and_first true b h = refl
and_first false b h = h

pub and_second : (a b : Bool) → IsTrue (a && b) → IsTrue b
and_second true b h = h
and_second false b h = cc

pub told : (b : Bool) → IsTrue b → T b
told b e = subst T (sym e) tt

pub tells : (b : Bool) → T b → IsTrue b
tells true h = refl
tells false h = absurd h

module _ {K : Type 0} where
  -- the keys that are not the one
  abbrev pub others : (K → K → Ordering) → K → K → Bool
  others R k x = not (eq_by_cmp R k x)

module _ {K X : Type 0} {R : K → K → Ordering} (o : IsTotalOrder R) where
  below_less : (x y : K) (es : List (K × X)) → R x y ≡ Less → T (below_all R y es) → T (below_all R x es)
  below_less x y [] p h = tt
  below_less x y (e ∷ es) p h = both _ _ (is_less _ (o.trans x y e.0 p (is_less_from _ (and_left _ _ h)))) (below_less x y es p (and_right _ _ h))

  below_tied : (x y : K) (es : List (K × X)) → R x y ≡ Equal → T (below_all R y es) → T (below_all R x es)
  below_tied x y [] p h = tt
  below_tied x y (e ∷ es) p h = both _ _ (is_less _ (o.congr x y e.0 p ∙ is_less_from _ (and_left _ _ h))) (below_tied x y es p (and_right _ _ h))

module _ {K X : Type 0} (R : K → K → Ordering) (k : K) where
  -- a key below all others is not found
  pub find_below : (es : List (K × X)) → T (below_all R k es) → find R k es ≡ None
  find_below [] h = refl
  find_below (e ∷ es) h = subst (λ r. cond (is_eq r) (Some e.1) (find R k es) ≡ None) (sym (is_less_from (R k e.0) (and_left _ (below_all R k es) h))) (find_below es (and_right (is_lt (R k e.0)) _ h))

  -- and to remove it changes nothing
  others_below : (es : List (K × X)) → T (below_all R k es) → where_key R (others R k) es ≡ es
  others_below [] h = refl
  others_below (e ∷ es) h = subst (λ r. cond (not (is_eq r)) (e ∷ where_key R (others R k) es) (where_key R (others R k) es) ≡ e ∷ es) (sym (is_less_from (R k e.0) (and_left _ (below_all R k es) h))) (ap (λ t. e ∷ t) (others_below es (and_right (is_lt (R k e.0)) _ h)))

module _ {K X : Type 0} {R : K → K → Ordering} (o : IsTotalOrder R) (k : K) where
  pub remove-sorted : map.IsAntisymmetric R → (es : List (K × X)) → T (is_sorted R es) → map.from_sorted {R = R} (where_key R (others R k) es) ≡ map.remove (map.from_sorted es) k
  remove-sorted apart es h = same_map o apart _ _ (λ q.
      get-from_sorted R _ q (is_sorted-where_key R (others R k) es h)
      ∙ find-where_key R (others R k) q (λ x t. ap (λ r. not (is_eq r)) (sym (alike_right o q x k t))) es
      ∙ turned (eq_by_cmp R k q) _ _
      ∙ ap (λ b. cond b None (find R q es)) ((eq_by_cmp_equiv o).symm k q)
      ∙ sym (get-remove o (map.from_sorted es) k q ∙ ap (cond (eq_by_cmp R q k) None) (get-from_sorted R es q h)))

  -- the size of the entry that had the key
  abbrev pub had : (K × X → ℕ) → Option X → ℕ
  had f v = option_map_or (λ x. f (k, x)) v 0

  none_below : (f : K × X → ℕ) (es : List (K × X)) → T (below_all R k es) → had f (find R k es) ≡ 0
  none_below f es h = ap (had f) (find_below R k es h)

  sum-put : map.IsAntisymmetric R → (f : K × X → ℕ) (v : X) (es : List (K × X)) → T (is_sorted R es) → sum_by f (put R k v es) + had f (find R k es) ≡ sum_by f es + f (k, v)
  sum-put apart f v [] h = omega (arith, sum_by-cons f (k, v) [])
  sum-put apart f v (e ∷ es) h = elim (R k e.0) as (λ r. R k e.0 ≡ r → sum_by f (by_order r ((k, v) ∷ e ∷ es) ((e.0, v) ∷ es) (e ∷ put R k v es)) + had f (cond (is_eq r) (Some e.1) (find R k es)) ≡ sum_by f (e ∷ es) + f (k, v)) [
    | Less ↦ λ p. omega (arith, sum_by-cons f (k, v) (e ∷ es), none_below f es (below_less o k e.0 es p (and_left _ (is_sorted R es) h)))
    | Equal ↦ λ p. subst (λ x. sum_by f ((e.0, v) ∷ es) + f (x, e.1) ≡ sum_by f (e ∷ es) + f (x, v)) (sym (apart k e.0 p)) (omega (arith, sum_by-cons f (e.0, v) es, sum_by-cons f e es))
    | Greater ↦ λ p. omega (arith, sum_by-cons f e (put R k v es), sum_by-cons f e es, sum-put apart f v es (and_right (below_all R e.0 es) _ h))
  ] refl

  sum-others : map.IsAntisymmetric R → (f : K × X → ℕ) (es : List (K × X)) → T (is_sorted R es) → sum_by f (where_key R (others R k) es) + had f (find R k es) ≡ sum_by f es
  sum-others apart f [] h = refl
  sum-others apart f (e ∷ es) h = elim (R k e.0) as (λ r. R k e.0 ≡ r → sum_by f (cond (not (is_eq r)) (e ∷ where_key R (others R k) es) (where_key R (others R k) es)) + had f (cond (is_eq r) (Some e.1) (find R k es)) ≡ sum_by f (e ∷ es)) [
    | Less ↦ λ p. omega (arith, sum_by-cons f e (where_key R (others R k) es), sum_by-cons f e es, sum-others apart f es (and_right (below_all R e.0 es) _ h))
    | Equal ↦ λ p. subst (λ x. sum_by f (where_key R (others R k) es) + f (x, e.1) ≡ sum_by f (e ∷ es)) (sym (apart k e.0 p)) (omega (arith, sum_by-cons f e es, ap (sum_by f) (others_below R k es (below_tied o k e.0 es p (and_left _ (is_sorted R es) h)))))
    | Greater ↦ λ p. omega (arith, sum_by-cons f e (where_key R (others R k) es), sum_by-cons f e es, sum-others apart f es (and_right (below_all R e.0 es) _ h))
  ] refl

  -- the entries of a map after one was inserted, or removed
  pub total-insert : map.IsAntisymmetric R → (f : K × X → ℕ) (m : map.FinMap R X) (v : X) → sum_by f (map.entries (map.insert m k v)) + had f (map.get m k) ≡ sum_by f (map.entries m) + f (k, v)
  total-insert apart f m v = ap (λ es. sum_by f es + had f (map.get m k)) (entries-insert o m k v) ∙ ap (λ x. sum_by f (put R k v (map.entries m)) + had f x) (get-entries m k) ∙ sum-put apart f v (map.entries m) (entries_sorted m)

  same_as_sorted : (m : map.FinMap R X) → map.from_sorted (map.entries m) ≡ m
  same_as_sorted m = same_entries_map _ _ (entries-from_sorted R _ (entries_sorted m))

  pub entries-remove : map.IsAntisymmetric R → (m : map.FinMap R X) → map.entries (map.remove m k) ≡ where_key R (others R k) (map.entries m)
  entries-remove apart m =
      ap (λ n. map.entries (map.remove n k)) (sym (same_as_sorted m))
      ∙ ap map.entries (sym (remove-sorted apart (map.entries m) (entries_sorted m)))
      ∙ entries-from_sorted R _ (is_sorted-where_key R (others R k) _ (entries_sorted m))

  pub total-remove : map.IsAntisymmetric R → (f : K × X → ℕ) (m : map.FinMap R X) → sum_by f (map.entries (map.remove m k)) + had f (map.get m k) ≡ sum_by f (map.entries m)
  total-remove apart f m = ap (λ es. sum_by f es + had f (map.get m k)) (entries-remove apart m) ∙ ap (λ x. sum_by f (where_key R (others R k) (map.entries m)) + had f x) (get-entries m k) ∙ sum-others apart f (map.entries m) (entries_sorted m)
