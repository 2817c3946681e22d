-- Elements that come after the greatest index.
use Rattle.std.proofs.Common.{◌≡◌, ℕ, ◌+◌, ◌<◌, ◌≤◌, Bool, true, false, cond, T, List, [], ◌∷◌, ◌++◌, Some, None, refl, sym, ap, subst, ◌∙◌, arith, Less, Equal, Greater, nat_cmp, append_assoc, append-nil}
use Rattle.std.specs.Prelude.{nat_le, nat_lt, ◌&&◌, map as map_list}
use Rattle.std.specs.Cmp.{nat_cmp_total, ranked, tied_itself}
use Rattle.std.specs.FinMap as map
use Rattle.std.specs.FinMap.{find, put, is_sorted, same_map, nat_cmp-IsAntisymmetric, get-insert, get-remove, get-entries, entries-insert, entries_sorted}
use Rattle.std.specs.FinMap.Entries.{by_order, below_all}
use Rattle.std.specs.Ordering.{is_eq, is_lt, eq_by_cmp}
use Rattle.std.proofs.lemmas.Bool.Decides.{nat_tests}
use Rattle.eb_bytes.specs.Text.{Text}
use Rattle.shell_vars.specs.Elements.{Elements, index_after, next_index, put_from}
use Rattle.shell_vars.proofs.Sorted.{and_left, and_right, is_less_from}

-- the same texts with the indices from this one on
abbrev pub numbered : ℕ → List (ℕ × Text) → List (ℕ × Text)
numbered at [] = []
numbered at (e ∷ es) = (at, e.1) ∷ numbered (at + 1) es

-- by the test of two indices
same_from : (q at : ℕ) → eq_by_cmp nat_cmp q at ≡ true → q ≡ at
same_from q at e = elim (nat_cmp q at) as (λ r. nat_cmp q at ≡ r → is_eq r ≡ true → q ≡ at) [
  | Less ↦ λ p k. cc
  | Equal ↦ λ p k. ranked q at Equal (sym p)
  | Greater ↦ λ p k. cc
] refl e

other_from : (q at : ℕ) → eq_by_cmp nat_cmp q at ≡ false → ¬ (q ≡ at)
other_from q at e = λ same. absurd (cc (e, ap is_eq (tied_itself nat_cmp_total q)))

apart_from : (q at : ℕ) → ¬ (q ≡ at) → eq_by_cmp nat_cmp q at ≡ false
apart_from q at n = elim (eq_by_cmp nat_cmp q at) as (λ b. eq_by_cmp nat_cmp q at ≡ b → b ≡ false) [
  | true ↦ λ p. absurd (n (same_from q at p))
  | false ↦ λ p. refl
] refl

-- each index is below a number
abbrev pub AllUnder : ℕ → List (ℕ × Text) → Type 0
AllUnder at [] = Unit {0}
AllUnder at (e ∷ es) = (e.0 < at) × AllUnder at es

under_more : (m n : ℕ) (es : List (ℕ × Text)) → m ≤ n → AllUnder m es → AllUnder n es
under_more m n [] h u = tt
under_more m n (e ∷ es) h u = (omega (arith, u.0), under_more m n es h u.1)

under_append : (n : ℕ) (es fs : List (ℕ × Text)) → AllUnder n es → AllUnder n fs → AllUnder n (es ++ fs)
under_append n [] fs u v = v
under_append n (e ∷ es) fs u v = (u.0, under_append n es fs u.1 v)

pub put-last : (at : ℕ) (t : Text) (es : List (ℕ × Text)) → AllUnder at es → put nat_cmp at t es ≡ es ++ (at, t) ∷ []
put-last at t [] u = refl
put-last at t (e ∷ es) u = elim (nat_cmp at e.0) as (λ r. nat_cmp at e.0 ≡ r → by_order r ((at, t) ∷ e ∷ es) ((e.0, t) ∷ es) (e ∷ put nat_cmp at t es) ≡ e ∷ (es ++ (at, t) ∷ [])) [
  | Less ↦ λ p. let l : at < e.0 = ranked at e.0 Less (sym p) in absurd (omega (arith, u.0))
  | Equal ↦ λ p. let l : at ≡ e.0 = ranked at e.0 Equal (sym p) in absurd (omega (arith, u.0))
  | Greater ↦ λ p. ap (λ x. e ∷ x) (put-last at t es u.1)
] refl

pub entries-put_from : (fs : List (ℕ × Text)) (at : ℕ) (m : Elements) → AllUnder at (map.entries m) → map.entries (put_from at (map_list (λ e. e.1) fs) m) ≡ map.entries m ++ numbered at fs
entries-put_from [] at m u = sym (append-nil (map.entries m))
entries-put_from (f ∷ fs) at m u =
    let here : map.entries (map.insert m at f.1) ≡ map.entries m ++ (at, f.1) ∷ [] = entries-insert nat_cmp_total m at f.1 ∙ put-last at f.1 (map.entries m) u in
    entries-put_from fs (at + 1) (map.insert m at f.1) (subst (AllUnder (at + 1)) (sym here) (under_append (at + 1) (map.entries m) ((at, f.1) ∷ []) (under_more at (at + 1) _ (omega arith) u) (omega arith, tt)))
    ∙ ap (λ es. es ++ numbered (at + 1) fs) here ∙ append_assoc (map.entries m) ((at, f.1) ∷ []) (numbered (at + 1) fs)

-- the indices of elements in their order are below the one behind the last
pub under_last : (es : List (ℕ × Text)) → T (is_sorted nat_cmp es) → AllUnder (index_after es) es
under_last [] s = tt
under_last (e ∷ []) s = (omega arith, tt)
under_last (e ∷ f ∷ es) s =
    let rest = under_last (f ∷ es) (and_right (below_all nat_cmp e.0 (f ∷ es)) _ s) in
    let l : e.0 < f.0 = ranked e.0 f.0 Less (sym (is_less_from _ (and_left (is_lt (nat_cmp e.0 f.0)) _ (and_left (below_all nat_cmp e.0 (f ∷ es)) _ s)))) in
    (omega (arith, l, rest.0), rest)

-- there is no element from the one after the last on
find_above : (es : List (ℕ × Text)) (at q : ℕ) → AllUnder at es → at ≤ q → find nat_cmp q es ≡ None
find_above [] at q u h = refl
find_above (e ∷ es) at q u h = elim (nat_cmp q e.0) as (λ r. nat_cmp q e.0 ≡ r → cond (is_eq r) (Some e.1) (find nat_cmp q es) ≡ None) [
  | Less ↦ λ p. find_above es at q u.1 h
  | Equal ↦ λ p. let l : q ≡ e.0 = ranked q e.0 Equal (sym p) in absurd (omega (arith, u.0))
  | Greater ↦ λ p. find_above es at q u.1 h
] refl

pub get_above : (m : Elements) (q : ℕ) → next_index m ≤ q → map.get m q ≡ None
get_above m q h = get-entries m q ∙ find_above (map.entries m) (next_index m) q (under_last (map.entries m) (entries_sorted m)) h

-- the indices from a first one up to and without another
abbrev pub is_between : ℕ → ℕ → ℕ → Bool
is_between start end q = nat_le start q && nat_lt q end

-- one more element at the end of a range: outside of it all is as before
pub outside_more : (m n : Elements) (start at : ℕ) (t : Text) → start ≤ at → ((q : ℕ) → is_between start at q ≡ false → map.get n q ≡ map.get m q) → (q : ℕ) → is_between start (at + 1) q ≡ false → map.get (map.insert n at t) q ≡ map.get m q
outside_more m n start at t h same q e =
    let other : eq_by_cmp nat_cmp q at ≡ false = apart_from q at (λ same. grind (arith, nat_tests)) in
    get-insert nat_cmp_total n at t q ∙ ap (λ b. cond b (Some t) (map.get n q)) other ∙ same q (grind (arith, nat_tests))

-- the elements that were put after the last are gone again
pub taken_back : (m n new : Elements) (start at : ℕ) → next_index m ≤ start → ((q : ℕ) → is_between start at q ≡ false → map.get n q ≡ map.get m q) → ((q : ℕ) → map.get new q ≡ cond (is_between start at q) None (map.get n q)) → new ≡ m
taken_back m n new start at above same gone = same_map nat_cmp_total nat_cmp-IsAntisymmetric _ _ (λ q. gone q ∙ by_place q (is_between start at q) refl)
  where
    by_place : (q : ℕ) (b : Bool) → is_between start at q ≡ b → cond b None (map.get n q) ≡ map.get m q
    by_place q true e = sym (get_above m q (grind (arith, nat_tests)))
    by_place q false e = same q e

-- one index more is taken out of a range
pub removed_more : (m n : Elements) (start at : ℕ) → start ≤ at → ((q : ℕ) → map.get n q ≡ cond (is_between start at q) None (map.get m q)) → (q : ℕ) → map.get (map.remove n at) q ≡ cond (is_between start (at + 1) q) None (map.get m q)
removed_more m n start at h gone q = get-remove nat_cmp_total n at q ∙ by_tie (eq_by_cmp nat_cmp q at) refl
  where
    by_tie : (b : Bool) → eq_by_cmp nat_cmp q at ≡ b → cond b None (map.get n q) ≡ cond (is_between start (at + 1) q) None (map.get m q)
    by_tie true e =
        let same : q ≡ at = same_from q at e in
        let inside : is_between start (at + 1) q ≡ true = grind (arith, nat_tests) in
        ap (λ b. cond b None (map.get m q)) (sym inside)
    by_tie false e =
        let other : ¬ (q ≡ at) = other_from q at e in
        let inside : is_between start at q ≡ is_between start (at + 1) q = grind (arith, nat_tests) in
        gone q ∙ ap (λ b. cond b None (map.get m q)) inside
