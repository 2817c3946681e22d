-- Entries whose keys are read by a function, as a name by its bytes.
use Rattle.std.proofs.Common.{◌≡◌, ℕ, List, [], ◌∷◌, Some, Bool, true, false, cond, refl, ap, arith, Ordering, Less, Equal, Greater}
use Rattle.std.specs.Prelude.{map as map_list, sum_by}
use Rattle.std.specs.Ordering.{match_ordering}
use Rattle.std.specs.List.{AllByRecursion}
use Rattle.std.specs.List.Sorted.{IsStrictlySortedBy}
use Rattle.std.specs.Map.{keys_of, lookup, remove_entry, set_value}
use Rattle.std.specs.BTreeMap.{insert_entry}
use Rattle.std.proofs.lemmas.List.Sums.{sum_by-cons}

module _ {K B X : Type 0} (f : K → B) where
  abbrev pub keyed : List (K × X) → List (B × X)
  keyed es = map_list (λ e. (f e.0, e.1)) es

  module _ (test : B → Bool) where
    pub keyed-lookup : (es : List (K × X)) → lookup (λ k. test (f k)) es ≡ lookup test (keyed es)
    keyed-lookup [] = refl
    keyed-lookup (e ∷ es) = ap (cond (test (f e.0)) (Some e.1)) (keyed-lookup es)

    pub keyed-set : (es : List (K × X)) (w : X) → keyed (set_value (λ k. test (f k)) es w) ≡ set_value test (keyed es) w
    keyed-set [] w = refl
    keyed-set (e ∷ es) w = elim (test (f e.0)) as (λ b. keyed (cond b ((e.0, w) ∷ es) (e ∷ set_value (λ k. test (f k)) es w)) ≡ cond b ((f e.0, w) ∷ keyed es) ((f e.0, e.1) ∷ set_value test (keyed es) w)) [
      | true ↦ refl
      | false ↦ ap (λ t. (f e.0, e.1) ∷ t) (keyed-set es w)
    ]

    pub keyed-remove : (es : List (K × X)) → keyed (remove_entry (λ k. test (f k)) es) ≡ remove_entry test (keyed es)
    keyed-remove [] = refl
    keyed-remove (e ∷ es) = elim (test (f e.0)) as (λ b. keyed (cond b es (e ∷ remove_entry (λ k. test (f k)) es)) ≡ cond b (keyed es) ((f e.0, e.1) ∷ remove_entry test (keyed es))) [
      | true ↦ refl
      | false ↦ ap (λ t. (f e.0, e.1) ∷ t) (keyed-remove es)
    ]

  module _ (R : B → B → Ordering) where
    pub keyed-insert : (es : List (K × X)) (k : K) (v : X) → keyed (insert_entry (λ x y. R (f x) (f y)) es k v) ≡ insert_entry R (keyed es) (f k) v
    keyed-insert [] k v = refl
    keyed-insert (e ∷ es) k v = elim (R (f k) (f e.0)) as (λ r. keyed (match_ordering r ((k, v) ∷ e ∷ es) ((e.0, v) ∷ es) (e ∷ insert_entry (λ x y. R (f x) (f y)) es k v)) ≡ match_ordering r ((f k, v) ∷ keyed (e ∷ es)) ((f e.0, v) ∷ keyed es) ((f e.0, e.1) ∷ insert_entry R (keyed es) (f k) v)) [
      | Less ↦ refl
      | Equal ↦ refl
      | Greater ↦ ap (λ t. (f e.0, e.1) ∷ t) (keyed-insert es k v)
    ]

    keyed-all : (k : B) (es : List (K × X)) → AllByRecursion (λ y. R k (f y) ≡ Less) (keys_of es) → AllByRecursion (λ y. R k y ≡ Less) (keys_of (keyed es))
    keyed-all k [] a = tt
    keyed-all k (e ∷ es) a = (a.0, keyed-all k es a.1)

    pub keyed-sorted : (es : List (K × X)) → IsStrictlySortedBy (λ x y. R (f x) (f y)) (keys_of es) → IsStrictlySortedBy R (keys_of (keyed es))
    unfolding IsStrictlySortedBy
    keyed-sorted [] h = tt
    keyed-sorted (e ∷ es) h = (keyed-all (f e.0) es h.0, keyed-sorted es h.1)

  pub sum-keyed : (size : B × X → ℕ) (es : List (K × X)) → sum_by size (keyed es) ≡ sum_by (λ e. size (f e.0, e.1)) es
  sum-keyed size [] = refl
  sum-keyed size (e ∷ es) = omega (arith, sum_by-cons size (f e.0, e.1) (keyed es), sum_by-cons (λ (x : K × X). size (f x.0, x.1)) e es, sum-keyed size es)
