-- All matches are those that a reader finds from left to right.
use Rattle.std.proofs.Common.{◌≡◌, ℕ, zero, suc, ◌+◌, ◌-◌, ◌<◌, ◌≤◌, Bool, false, [], ◌∷◌, length, take, drop, Option, Some, None, refl, ap, subst, sym, ◌∙◌, ◌⊎◌, inl, inr, arith, length-drop}
use Rattle.std.specs.Option.{unwrap_or}
use Rattle.std.proofs.lemmas.Bool.{cases_lt}
use Rattle.std.proofs.lemmas.List.{drop-drop}
use Rattle.eb_bytes.specs.Text.{Text}
use Rattle.bash_patterns.specs.Places.{AreMatches, IsGreatest, IsNext, longest_prefix, matches_after, matches_before, matches_between, taken}
use Rattle.bash_patterns.proofs.Placed.{greatest-is}

-- no match with a byte begins from one place on before another
abbrev IsClear : (Text → Bool) → Text → ℕ → ℕ → Type 0
IsClear m t from place = (i j : ℕ) → from ≤ i → i < place → i < j → j ≤ length t → matches_between m t i j ≡ false

nothing_after : (m : Text → Bool) (t : Text) (place from : ℕ) → length t ≤ place → IsClear m t from place → AreMatches m t from []
nothing_after m t place from h clear = λ i j l lt u. clear i j l (omega arith) lt u

-- one place more, at which no match with a byte begins
clear_more : (m : Text → Bool) (t : Text) (place from : ℕ) → ((k : ℕ) → 0 < k → k ≤ length (drop place t) → m (take k (drop place t)) ≡ false) → IsClear m t from place → IsClear m t from (place + 1)
clear_more m t place from none clear = λ i j l lt ij u. on i j l lt ij u (cases_lt i place)
  where
    on : (i j : ℕ) → from ≤ i → i < place + 1 → i < j → j ≤ length t → (i < place) ⊎ (place ≤ i) → matches_between m t i j ≡ false
    on i j l lt ij u (inl below) = clear i j l below ij u
    on i j l lt ij u (inr at) =
        let same : i ≡ place = omega arith in
        ap (λ k. matches_between m t k j) same ∙ none (j - place) (omega arith) (omega (arith, length-drop place t))

matched_from : (m : Text → Bool) (t u : Text) (k place from : ℕ) → u ≡ drop place t → from ≤ place + k → k ≤ length u → IsClear m t from (place + k) → AreMatches m t from (matches_after m place k u)
unfolding matches_after
matched_from m t [] k place from e h l clear =
    let here : place + k ≡ place = omega arith in
    let past : length t ≤ place = omega (arith, ap length e, length-drop place t) in
    let P : ℕ → Type 0 = λ n. IsClear m t from n in
    nothing_after m t place from past (subst P here clear)
matched_from m t (b ∷ u) (suc k) place from e h l clear =
    let next : place + suc k ≡ place + 1 + k = omega arith in
    let P : ℕ → Type 0 = λ n. IsClear m t from n in
    matched_from m t u k (place + 1) from (ap (drop 1) e ∙ drop-drop 1 place t) (omega arith) (omega arith) (subst P next clear)
matched_from m t (b ∷ u) zero place from e h l clear = on (longest_prefix m (b ∷ u)) (greatest-is (matches_before m (b ∷ u)) (length (b ∷ u))) (λ k from' h' l' clear'. matched_from m t u k (place + 1) from' (ap (drop 1) e ∙ drop-drop 1 place t) h' l' clear')
  where
    clear_here : IsClear m t from place
    clear_here =
        let here : place + 0 ≡ place = omega arith in
        let P : ℕ → Type 0 = λ n. IsClear m t from n in
        subst P here clear

    empty : ((k : ℕ) → 0 < k → k ≤ length (b ∷ u) → m (take k (b ∷ u)) ≡ false) → ((k from' : ℕ) → from' ≤ place + 1 + k → k ≤ length u → IsClear m t from' (place + 1 + k) → AreMatches m t from' (matches_after m (place + 1) k u)) → AreMatches m t from (matches_after m (place + 1) 0 u)
    empty none more =
        let P : Text → Type 0 = λ v. (k : ℕ) → 0 < k → k ≤ length v → m (take k v) ≡ false in
        let Q : ℕ → Type 0 = λ n. IsClear m t from n in
        let here : place + 1 ≡ place + 1 + 0 = omega arith in
        more 0 from (omega arith) (omega arith) (subst Q here (clear_more m t place from (subst P e none) clear_here))

    on : (o : Option ℕ) → IsGreatest (matches_before m (b ∷ u)) (length (b ∷ u)) o → ((k from' : ℕ) → from' ≤ place + 1 + k → k ≤ length u → IsClear m t from' (place + 1 + k) → AreMatches m t from' (matches_after m (place + 1) k u)) → AreMatches m t from (taken place (unwrap_or o 0) (λ k. matches_after m (place + 1) k u))
    on None greatest more = empty (λ k some fits. greatest k fits) more
    on (Some zero) greatest more = empty (λ k some fits. greatest.2 k some fits) more
    on (Some (suc n)) greatest more =
        let size : place + suc n - place ≡ suc n = omega arith in
        let long : suc (length u) ≡ length t - place = omega (arith, ap length e, length-drop place t) in
        let within : suc n ≤ suc (length u) = greatest.0 in
        let one : IsNext m t from place (place + suc n) = record {
          not_before = omega arith;
          some = omega arith;
          in_text = omega arith;
          matched = ap (λ k. m (take k (drop place t))) size ∙ ap (λ v. m (take (suc n) v)) (sym e) ∙ greatest.1;
          first = clear_here;
          longest = λ j lt fits. ap (λ v. m (take (j - place) v)) (sym e) ∙ greatest.2 (j - place) (omega arith) (omega arith);
        } in
        (one, more n (place + suc n) (omega arith) (omega arith) (λ i j l lt ij fits. absurd (omega arith)))

pub all_matched : (m : Text → Bool) (t : Text) → AreMatches m t 0 (matches_after m 0 0 t)
all_matched m t = matched_from m t t 0 0 0 refl (omega arith) (omega arith) (λ i j l lt ij fits. absurd (omega arith))
