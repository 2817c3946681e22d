-- The longest matches in a text, from what one walk says of them.
use Rattle.std.proofs.Common.{◌≡◌, ℕ, zero, suc, ◌+◌, ◌-◌, ◌<◌, ◌≤◌, Bool, true, false, ◌&&◌, nat_le, List, [], ◌∷◌, ◌++◌, length, take, drop, Option, Some, None, get_or, slice_index_or, refl, ap, subst, sym, ◌∙◌, arith, append_assoc, length-append, length-drop}
use Rattle.std.specs.Option.{option_map, unwrap_or}
use Rattle.std.proofs.Math.ListN.{get_or-map}
use Rattle.std.proofs.lemmas.Bool.{and_from, and_parts, le-leb, leb-true, lt-leb}
use Rattle.std.proofs.lemmas.List.{append-nil, drop-drop, drop_all, drop_more, take-append-drop, take_at}
use Rattle.eb_bytes.specs.Text.{Text}
use Rattle.bash_patterns.specs.declared.way.Goal.TheVariants.{Anywhere}
use Rattle.bash_patterns.specs.Facing.{grown, holds}
use Rattle.bash_patterns.specs.Form.{Form}
use Rattle.bash_patterns.specs.Kept.{starts}
use Rattle.bash_patterns.specs.Matching.{matches, some_cut}
use Rattle.bash_patterns.specs.Outlook.{AreEnds}
use Rattle.bash_patterns.specs.Places.{IsGreatest, longest_prefix, longest_size, matches_after, matches_before, taken}
use Rattle.bash_patterns.specs.Walk.{is_within, leaves}
use Rattle.bash_patterns.proofs.Found.{get_or-grown}
use Rattle.bash_patterns.proofs.Parted.{cut_of, some_cut-from}
use Rattle.bash_patterns.proofs.Placed.{greatest-is, the_greatest}

-- where no cut passes, none passes at a place
not_cut : (f : Text → Text → Bool) (t : Text) (i : ℕ) → some_cut f t ≡ false → f (take i t) (drop i t) ≡ false
not_cut f t i none = on (f (take i t) (drop i t)) refl
  where
    on : (v : Bool) → f (take i t) (drop i t) ≡ v → v ≡ false
    on false e = refl
    on true e =
        let some : some_cut f t ≡ true = ap (some_cut f) (sym (take-append-drop i t)) ∙ some_cut-from f (take i t) (drop i t) e in
        let never : true ≡ false = sym some ∙ none in
        absurd (cc)

left_false : (x y : Bool) → (x && y) ≡ false → y ≡ true → x ≡ false
left_false true y h e = let never : true ≡ false = sym e ∙ h in absurd (cc)
left_false false y h e = refl

no_front : (p : Form) (t : Text) (most i : ℕ) → starts p (leaves most) t ≡ false → length (drop i t) ≤ most → matches p (take i t) ≡ false
unfolding starts
no_front p t most i none h =
    left_false (matches p (take i t)) (nat_le (length (drop i t)) most) (not_cut (λ a c. matches p a && nat_le (length c) most) t i none) (le-leb (length (drop i t)) most h)

-- a value that tells of each number of bytes whether a match leaves at most so many tells the longest
told_longest : (p : Form) (t : Text) (v : Option ℕ) → ((most : ℕ) → is_within most v ≡ starts p (leaves most) t) → IsGreatest (matches_before (matches p) t) (length t) (option_map (λ n. length t - n) v)
unfolding starts
told_longest p t None told = λ i h. no_front p t (length t) i (sym (told (length t))) (omega (arith, length-drop i t))
told_longest p t (Some n) told =
    let cut = cut_of (λ a c. matches p a && nat_le (length c) n) t (sym (told n) ∙ le-leb n n (omega arith)) in
    let passed = and_parts (matches p cut.front) (nat_le (length cut.back) n) cut.passed in
    let most : length cut.back ≤ n = leb-true (length cut.back) n passed.1 in
    let whole : length cut.front + length cut.back ≡ length t = omega (arith, length-append cut.front cut.back, ap length cut.whole) in
    let again : starts p (leaves (length cut.back)) t ≡ true =
    ap (starts p (leaves (length cut.back))) (sym cut.whole) ∙ some_cut-from (λ a c. matches p a && nat_le (length c) (length cut.back)) cut.front cut.back (and_from (matches p cut.front) (nat_le (length cut.back) (length cut.back)) passed.0 (le-leb (length cut.back) (length cut.back) (omega arith))) in
    let least : n ≤ length cut.back = leb-true n (length cut.back) (told (length cut.back) ∙ again) in
    let size : length cut.front ≡ length t - n = omega arith in
    let front : take (length t - n) t ≡ cut.front = ap (λ k. take k t) (sym size) ∙ ap (take (length cut.front)) (sym cut.whole) ∙ take_at cut.front cut.back (length cut.front) refl in
    (omega arith, ap (matches p) front ∙ passed.0, λ i h l. no_front p t (length t - i) i (sym (told (length t - i)) ∙ lt-leb n (length t - i) (omega arith)) (omega (arith, length-drop i t)))

told_size : (p : Form) (t : Text) (v : Option ℕ) → ((most : ℕ) → is_within most v ≡ starts p (leaves most) t) → unwrap_or (option_map (λ n. length t - n) v) 0 ≡ longest_size (matches p) t
told_size p t v told = ap (λ o. unwrap_or o 0) (the_greatest (matches_before (matches p) t) (length t) (option_map (λ n. length t - n) v) (told_longest p t v told))

pub ends_size : (p : Form) (t : Text) (ends shown : List (Option ℕ)) (place size : ℕ) → place ≤ length t → AreEnds p t ends → shown ≡ ends → size ≡ unwrap_or (option_map (λ n. length t - place - n) (slice_index_or shown (length t - place) None)) 0 → size ≡ longest_size (matches p) (drop place t)
ends_size p t ends shown place size h are s e =
    let long : length t - place ≡ length (drop place t) = omega (arith, length-drop place t) in
    let back : length t - (length t - place) ≡ place = omega arith in
    let value : Option ℕ = get_or ends (length t - place) None in
    let told : (most : ℕ) → is_within most value ≡ starts p (leaves most) (drop place t) =
    λ most. sym (get_or-map (is_within most) ends (length t - place) None)
    ∙ ap (λ l. get_or l (length t - place) false) (are most)
    ∙ get_or-grown (starts p (leaves most)) t (length t - place) (omega arith)
    ∙ ap (λ n. starts p (leaves most) (drop n t)) back in
    e ∙ ap (λ l. unwrap_or (option_map (λ n. length t - place - n) (get_or l (length t - place) None)) 0) s
    ∙ ap (λ m. unwrap_or (option_map (λ n. m - n) value) 0) long
    ∙ told_size p (drop place t) value told

-- where no match begins, none is the longest
pub none_size : (p : Form) (t : Text) (begins shown : List Bool) (place : ℕ) → place ≤ length t → begins ≡ grown (starts p (holds Anywhere)) t → shown ≡ begins → slice_index_or shown (length t - place) false ≡ false → 0 ≡ longest_size (matches p) (drop place t)
unfolding starts
none_size p t begins shown place h are s e =
    let back : length t - (length t - place) ≡ place = omega arith in
    let none : starts p (holds Anywhere) (drop place t) ≡ false =
    ap (λ n. starts p (holds Anywhere) (drop n t)) (sym back)
    ∙ sym (get_or-grown (starts p (holds Anywhere)) t (length t - place) (omega arith))
    ∙ ap (λ l. get_or l (length t - place) false) (sym (s ∙ are))
    ∙ e in
    let greatest_ : IsGreatest (matches_before (matches p) (drop place t)) (length (drop place t)) None =
    λ i l. left_false (matches p (take i (drop place t))) true (not_cut (λ a c. matches p a && true) (drop place t) i none) refl in
    ap (λ o. unwrap_or o 0) (the_greatest (matches_before (matches p) (drop place t)) (length (drop place t)) None greatest_)

-- the longest match is no longer than the text
pub size-fits : (m : Text → Bool) (t : Text) (size : ℕ) → size ≡ longest_size m t → size ≤ length t
size-fits m t size e = let P : ℕ → Type 0 = λ n. n ≤ length t in subst P (sym e) (on (longest_prefix m t) (greatest-is (matches_before m t) (length t)))
  where
    on : (o : Option ℕ) → IsGreatest (matches_before m t) (length t) o → unwrap_or o 0 ≤ length t
    on None h = omega arith
    on (Some n) h = h.0

-- ---- one match after another

skipped : (m : Text → Bool) (place k : ℕ) (t : Text) → matches_after m place k t ≡ matches_after m (place + k) 0 (drop k t)
unfolding matches_after
skipped m place zero t = let none : place ≡ place + 0 = omega arith in ap (λ n. matches_after m n 0 t) none
skipped m place (suc k) [] = refl
skipped m place (suc k) (b ∷ t) =
    let more : place + 1 + k ≡ place + suc k = omega arith in
    skipped m (place + 1) k t ∙ ap (λ n. matches_after m n 0 (drop k t)) more

-- what is found so far, before a place, and what is still to be found
pub record IsFound (m : Text → Bool) (t : Text) (place : ℕ) (found : List (ℕ × ℕ)) : Type 0 where
  pub fits : place ≤ length t
  pub all : matches_after m 0 0 t ≡ found ++ matches_after m place 0 (drop place t)

pub found_begun : (m : Text → Bool) (t : Text) (found : List (ℕ × ℕ)) → found ≡ [] → IsFound m t 0 found
found_begun m t found e = record { fits = omega arith; all = ap (λ l. l ++ matches_after m 0 0 t) (sym e) }

first_taken : (m : Text → Bool) (t : Text) (place size : ℕ) → place < length t → size ≡ longest_size m (drop place t) → matches_after m place 0 (drop place t) ≡ taken place size (λ k. matches_after m (place + 1) k (drop (place + 1) t))
unfolding matches_after
first_taken m t place size h e =
    let first : drop place t ≡ get_or t place 0 ∷ drop (place + 1) t = drop_more t place 0 h in
    ap (matches_after m place 0) first ∙ ap (λ n. taken place n (λ k. matches_after m (place + 1) k (drop (place + 1) t))) (ap (longest_size m) (sym first) ∙ sym e)

pub found_none : (m : Text → Bool) (t : Text) (place size : ℕ) (found : List (ℕ × ℕ)) → place < length t → size ≡ longest_size m (drop place t) → size ≡ 0 → IsFound m t place found → IsFound m t (place + 1) found
found_none m t place size found h e none so =
    record { fits = omega arith; all = so.all ∙ ap (λ l. found ++ l) (first_taken m t place size h e ∙ ap (λ n. taken place n (λ k. matches_after m (place + 1) k (drop (place + 1) t))) none) }

pub found_one : (m : Text → Bool) (t : Text) (place size : ℕ) (found found' : List (ℕ × ℕ)) → place < length t → size ≡ longest_size m (drop place t) → (size ≡ 0 → ⊥) → place + size ≤ length t → found' ≡ found ++ (place, place + size) ∷ [] → IsFound m t place found → IsFound m t (place + size) found'
found_one m t place zero found found' h e some fits f so = absurd (some refl)
found_one m t place (suc n) found found' h e some fits f so =
    let place' : place + 1 + n ≡ place + suc n = omega arith in
    let past : drop n (drop (place + 1) t) ≡ drop (place + suc n) t = drop-drop n (place + 1) t ∙ ap (λ k. drop k t) place' in
    record {
      fits = fits;
      all = so.all
          ∙ ap (λ l. found ++ l) (first_taken m t place (suc n) h e ∙ ap (λ l. (place, place + suc n) ∷ l) (skipped m (place + 1) n (drop (place + 1) t) ∙ ap (λ k. matches_after m k 0 (drop n (drop (place + 1) t))) place' ∙ ap (matches_after m (place + suc n) 0) past))
          ∙ sym (append_assoc found ((place, place + suc n) ∷ []) (matches_after m (place + suc n) 0 (drop (place + suc n) t)))
          ∙ ap (λ l. l ++ matches_after m (place + suc n) 0 (drop (place + suc n) t)) (sym f);
    }

pub found_all : (m : Text → Bool) (t : Text) (place : ℕ) (found : List (ℕ × ℕ)) → length t ≤ place → IsFound m t place found → found ≡ matches_after m 0 0 t
unfolding matches_after
found_all m t place found h so = sym (so.all ∙ ap (λ l. found ++ matches_after m place 0 l) (drop_all place t h) ∙ append-nil found)
