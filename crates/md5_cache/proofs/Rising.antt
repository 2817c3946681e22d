-- Lists whose elements rise, by their neighbours.
use Rattle.std.proofs.Common.{◌≡◌, ℕ, zero, suc, ◌+◌, ◌<◌, Bool, true, false, List, [], ◌∷◌, length, get_or, map, refl, ap, ◌∙◌, arith, rules}
use Rattle.std.specs.Prelude.{IsTrue, ◌↔◌}
use Rattle.std.specs.Cmp.{IsTotalOrder}
use Rattle.std.specs.Cmp.Lexicographic.{slice_cmp}
use Rattle.std.specs.Cmp.Rules.{comparing}
use Rattle.std.specs.Ordering.{is_lt, nat_cmp}
use Rattle.std.specs.List.{IsAllAdjacentAnswer}
use Rattle.std.specs.List.Sorted.{IsStrictlySortedBy}
use Rattle.std.specs.declared.cmp.Ordering.{Ordering}
use Rattle.std.specs.declared.cmp.Ordering.TheVariants.{Less, Equal, Greater}
use Rattle.std.proofs.lemmas.List.{get_or-map, length-map}
use Rattle.std.proofs.lemmas.Map.Keys.{sorted_from_all_adjacent}
use Rattle.eapi_tables.specs.Key.{key_place}
use Rattle.eapi_tables.specs.declared.key.Key.{Key}
use Rattle.eb_bytes.specs.Text.{Text}

is_less : (o : Ordering) → true ≡ is_lt o → o ≡ Less
is_less Less h = refl
is_less Equal h = absurd (cc)
is_less Greater h = absurd (cc)

module _ {X K : Type 0} (R : K → K → Ordering) (place : X → K) where
  sorted_at : (xs : List X) (k : ℕ) (d : X) → IsStrictlySortedBy R (map place xs) → suc k < length xs
      → R (place (get_or xs k d)) (place (get_or xs (suc k) d)) ≡ Less
  unfolding IsStrictlySortedBy
  sorted_at [] k d h lt = absurd (omega arith)
  sorted_at (x ∷ []) k d h lt = absurd (omega arith)
  sorted_at (x ∷ y ∷ xs) zero d h lt = h.0.0
  sorted_at (x ∷ y ∷ xs) (suc k) d h lt = sorted_at (y ∷ xs) k d h.1 (omega arith)

  -- each element is below the next one, or some element is not
  pub sorted_answer : IsTotalOrder R → (xs : List X) → X → (r : Bool) → IsAllAdjacentAnswer (λ x y b. b ≡ is_lt (R (place x) (place y))) xs r
      → IsTrue r ↔ IsStrictlySortedBy R (map place xs)
  sorted_answer total xs e true rise = (
    (λ _.
        sorted_from_all_adjacent total (map place xs) (place e)
        (λ k lt.
        let len : length (map place xs) ≡ length xs = length-map xs place in
        let below : k + 1 < length xs = omega arith in
        let first = get_or-map place xs k e (place e) (omega arith) in
        let second = get_or-map place xs (k + 1) e (place e) below in
        rw (first, second) (is_less (R (place (get_or xs k e)) (place (get_or xs (k + 1) e))) (rise k e below)))),
    (λ _. refl),
  )
  sorted_answer total xs e false (k, below, falls) = (
    (λ no. absurd (cc)),
    (λ ordered.
        let next : k + 1 ≡ suc k = omega arith in
        let less : R (place (get_or xs k e)) (place (get_or xs (k + 1) e)) ≡ Less = rw next (sorted_at xs k e ordered (omega arith)) in
        let never : false ≡ true = falls e ∙ ap is_lt less in
        absurd (cc)),
  )

-- ---- the two orders

pub numbers : IsTotalOrder nat_cmp
numbers = search (comparing, rules)

pub names : IsTotalOrder (slice_cmp nat_cmp)
names = search (comparing, rules)

-- the places of values, and the names of eclasses
abbrev pub value_place : Key × Text → ℕ
value_place value = key_place value.0

abbrev pub eclass_name : Text × Text → Text
eclass_name eclass = eclass.0
