-- Bodies whose marks rise, and those that are passed over to find the body of a mark.
use Rattle.std.proofs.Common.{◌≡◌, ℕ, zero, suc, ◌<◌, leb, ltb, leb-true, ltb-true, Bool, true, false, List, [], ◌∷◌, get_or, drop, sym, refl, arith}
use Rattle.std.specs.Borrow.{Bor}
use Rattle.std.specs.Fn.{Called, ComputesKey, ComputesOnPairs, Mut}
use Rattle.std.specs.List.{IsAllAdjacentAnswer}
use Rattle.std.specs.List.Sorted.{IsNonDecreasingBy, IsPartitionedBy, IsPartitionPoint}
use Rattle.std.proofs.lemmas.Bool.Decides.{nat_tests}
use Rattle.std.proofs.lemmas.List.Sorted.{IsNonDecreasingBy-from_all_adjacent, IsPartitionedBy-ltb, IsPartitionPoint-from_clause, answers_always}
use Rattle.eb_syntax.specs.declared.tree.HereBody.{HereBody}
use Rattle.eb_grammar.specs.Fill.{body_of}

-- what is said of neighbours, where each was found in order
module _ {F : Type 0} {g : Mut F (Bor HereBody × (Bor HereBody × Unit {0})) Bool} {f : F} (bodies : List HereBody) where
  pub rises : (r : Bool) → ((e : HereBody → HereBody → Bool) → ComputesOnPairs g e f → IsAllAdjacentAnswer (λ x y b. b ≡ e x y) bodies r)
      → ((h : F) (a : Bor HereBody × (Bor HereBody × Unit {0})) (s : Bool) (h' : F) → Called g h a s h' → s ≡ leb a.0.now.mark a.1.0.now.mark)
      → r ≡ true → IsNonDecreasingBy (λ (b : HereBody). b.mark) bodies
  rises false said called e = absurd (cc)
  rises true said called e =
      let all = said (λ x y. leb x.mark y.mark) (answers_always g (λ a s. s ≡ leb a.0.now.mark a.1.0.now.mark) f called) in
      IsNonDecreasingBy-from_all_adjacent (λ b. b.mark) bodies (λ k d lt. leb-true _ _ (sym (all k d lt)))

-- those that have smaller marks are passed over
passed : (mark : ℕ) (bodies : List HereBody) (n : ℕ) → ((k : ℕ) (d : HereBody) → k < n → (get_or bodies k d).mark < mark)
    → body_of mark (drop n bodies) ≡ body_of mark bodies
passed mark bodies zero less = refl
passed mark [] (suc n) less = refl
passed mark (b ∷ bs) (suc n) less =
    grind (arith, nat_tests, less 0 b (omega arith), passed mark bs n (λ k d lt. less (suc k) d (omega arith)))

module _ {F : Type 0} {g : Mut F (Bor HereBody × Unit {0}) Bool} {f : F} (mark : ℕ) (bodies : List HereBody) (n : ℕ) where
  -- so are those before the first that has not
  pub passes : ((q : HereBody → Bool) → ComputesKey g q f → IsPartitionedBy q bodies → IsPartitionPoint (λ y. q y ≡ true) (λ y. q y ≡ false) bodies n)
      → ((a : Bor HereBody × Unit {0}) (s : Bool) (f' : F) → Called g f a s f' → (s ≡ ltb a.0.now.mark mark) × (f' ≡ f))
      → IsNonDecreasingBy (λ (b : HereBody). b.mark) bodies → body_of mark (drop n bodies) ≡ body_of mark bodies
  passes said called rise =
      let point = IsPartitionPoint-from_clause (λ b. ltb b.mark mark) bodies n said (IsPartitionedBy-ltb (λ b. b.mark) bodies mark rise) called in
      passed mark bodies n (λ k d lt. ltb-true _ _ (point.0 k d (omega arith) lt))
