-- What the places of a walk say of the text.
use Rattle.std.proofs.Common.{◌≡◌, ℕ, suc, ◌+◌, ◌-◌, ◌<◌, ◌≤◌, Bool, true, false, ◌&&◌, List, [], ◌∷◌, ◌++◌, length, take, drop, reverse, Option, Some, None, get_or, slice_index_or, refl, ap, sym, ◌∙◌, ◌⊎◌, inl, inr, arith, length-drop}
use Rattle.std.specs.Option.{option_map}
use Rattle.std.proofs.lemmas.Bool.{cases_lt}
use Rattle.std.proofs.lemmas.List.{drop-drop, get_or_append_left, get_or_at, length-reverse, length_push}
use Rattle.eb_bytes.specs.Text.{Text}
use Rattle.bash_patterns.specs.declared.way.Way.TheVariants.{Backward, Forward}
use Rattle.bash_patterns.specs.declared.way.Goal.TheVariants.{End, Anywhere}
use Rattle.bash_patterns.specs.Form.{Form}
use Rattle.bash_patterns.specs.Facing.{facing, facing_form, grown, holds}
use Rattle.bash_patterns.specs.Kept.{starts}
use Rattle.bash_patterns.specs.Matching.{matches, some_cut}
use Rattle.bash_patterns.specs.Places.{IsFirstBegin, IsFirstTrue, IsGreatest, IsLastTrue, IsLeast, begins_at, first_begin, longest_prefix, longest_suffix, matches_before, matches_from, shortest_prefix, shortest_suffix}
use Rattle.bash_patterns.specs.Turned.{turned}
use Rattle.bash_patterns.proofs.Cuts.{and-true, some_cut-same}
use Rattle.bash_patterns.proofs.Faced.{drop-reverse}
use Rattle.bash_patterns.proofs.Grown.{starts-whole}
use Rattle.bash_patterns.proofs.Mirrored.{matches-turned}
use Rattle.bash_patterns.proofs.Placed.{the_begin, the_greatest, the_least}

length-grown : (m : Text → Bool) (t : Text) → length (grown m t) ≡ length t + 1
unfolding grown
length-grown m [] = refl
length-grown m (b ∷ t) = length_push (grown m t) (m (b ∷ t)) ∙ ap (λ n. n + 1) (length-grown m t) ∙ suc-one (length t)
  where
    suc-one : (n : ℕ) → n + 1 + 1 ≡ suc n + 1
    suc-one n = omega arith

-- the value at a place
pub get_or-grown : (m : Text → Bool) (t : Text) (j : ℕ) → j ≤ length t → get_or (grown m t) j false ≡ m (drop (length t - j) t)
unfolding grown
get_or-grown m [] j h = let e : j ≡ 0 = omega arith in rw e refl
get_or-grown m (b ∷ t) j h = on (cases_lt j (suc (length t))) (get_or-grown m t)
  where
    on : ((j < suc (length t)) ⊎ (suc (length t) ≤ j)) → ((i : ℕ) → i ≤ length t → get_or (grown m t) i false ≡ m (drop (length t - i) t)) → get_or (grown m t ++ m (b ∷ t) ∷ []) j false ≡ m (drop (suc (length t) - j) (b ∷ t))
    on (inl below) rest =
        let shorter : suc (length t) - j ≡ suc (length t - j) = omega arith in
        get_or_append_left (grown m t) (m (b ∷ t) ∷ []) false j (omega (arith, length-grown m t)) ∙ rest j (omega arith) ∙ ap (λ n. m (drop n (b ∷ t))) (sym shorter)
    on (inr at) rest =
        let none : suc (length t) - j ≡ 0 = omega arith in
        get_or_at (grown m t) (m (b ∷ t)) [] false j (omega (arith, length-grown m t)) ∙ ap (λ n. m (drop n (b ∷ t))) (sym none)

-- ---- from a list of values to places

-- the values say what a test says of each place up to n
record Says (values : List Bool) (test : ℕ → Bool) (n : ℕ) : Type 0 where
  long : length values ≡ n + 1
  at : (i : ℕ) → i ≤ n → get_or values i false ≡ test i

-- the values say it of each place from n down
record SaysBack (values : List Bool) (test : ℕ → Bool) (n : ℕ) : Type 0 where
  long : length values ≡ n + 1
  at : (i : ℕ) → i ≤ n → get_or values (n - i) false ≡ test i

least_from_first : (values : List Bool) (test : ℕ → Bool) (n : ℕ) (place : Option ℕ) → Says values test n → IsFirstTrue values (length values) place → IsLeast test n place
least_from_first values test n None says first = λ i h. sym (says.at i h) ∙ first i (omega (arith, says.long))
least_from_first values test n (Some k) says first =
    let below : k ≤ n = omega (arith, says.long, first.0) in
    (below, sym (says.at k below) ∙ first.1, λ i h. sym (says.at i (omega arith)) ∙ first.2 i h)

greatest_from_last : (values : List Bool) (test : ℕ → Bool) (n : ℕ) (place : Option ℕ) → Says values test n → IsLastTrue values (length values) place → IsGreatest test n place
greatest_from_last values test n None says last = λ i h. sym (says.at i h) ∙ last i (omega (arith, says.long))
greatest_from_last values test n (Some k) says last =
    let below : k ≤ n = omega (arith, says.long, last.0) in
    (below, sym (says.at k below) ∙ last.1, λ i h l. sym (says.at i l) ∙ last.2 i h (omega (arith, says.long)))

at_back : (values : List Bool) (test : ℕ → Bool) (n k : ℕ) → SaysBack values test n → k ≤ n → get_or values k false ≡ test (n - k)
at_back values test n k says h =
    let back : n - (n - k) ≡ k = omega arith in
    ap (λ i. get_or values i false) (sym back) ∙ says.at (n - k) (omega arith)

greatest_from_first : (values : List Bool) (test : ℕ → Bool) (n : ℕ) (place : Option ℕ) → SaysBack values test n → IsFirstTrue values (length values) place → IsGreatest test n (option_map (λ k. n - k) place)
greatest_from_first values test n None says first = λ i h. sym (says.at i h) ∙ first (n - i) (omega (arith, says.long))
greatest_from_first values test n (Some k) says first =
    let below : k ≤ n = omega (arith, says.long, first.0) in
    (omega arith, sym (at_back values test n k says below) ∙ first.1, λ i h l. sym (says.at i l) ∙ first.2 (n - i) (omega arith))

least_from_last : (values : List Bool) (test : ℕ → Bool) (n : ℕ) (place : Option ℕ) → SaysBack values test n → IsLastTrue values (length values) place → IsLeast test n (option_map (λ k. n - k) place)
least_from_last values test n None says last = λ i h. sym (says.at i h) ∙ last (n - i) (omega (arith, says.long))
least_from_last values test n (Some k) says last =
    let below : k ≤ n = omega (arith, says.long, last.0) in
    (omega arith, sym (at_back values test n k says below) ∙ last.1, λ i h. sym (says.at i (omega arith)) ∙ last.2 (n - i) (omega arith) (omega (arith, says.long)))

-- ---- the walks of a pattern

pub decided : (p : Form) (t : Text) (values shown : List Bool) → shown ≡ values → values ≡ grown (starts (facing_form Backward p) (holds End)) (facing Backward t) → slice_index_or shown (length t) false ≡ matches p t
unfolding facing facing_form
decided p t values shown s e =
    let all : length t - length t ≡ 0 = omega arith in
    ap (λ v. get_or v (length t) false) (s ∙ e) ∙ get_or-grown (starts p (holds End)) t (length t) (omega arith) ∙ ap (λ n. starts p (holds End) (drop n t)) all ∙ starts-whole p t

says_fronts : (p : Form) (t : Text) (values shown : List Bool) → shown ≡ values → values ≡ grown (starts (facing_form Forward p) (holds End)) (facing Forward t) → Says shown (matches_before (matches p) t) (length t)
unfolding facing facing_form
says_fronts p t values shown s e = record {
  long = ap length (s ∙ e) ∙ length-grown (starts (turned p) (holds End)) (reverse t) ∙ ap (λ n. n + 1) (length-reverse t);
  at = λ i h.
      let less : length (reverse t) - i ≡ length t - i = ap (λ n. n - i) (length-reverse t) in
      ap (λ v. get_or v i false) (s ∙ e) ∙ get_or-grown (starts (turned p) (holds End)) (reverse t) i (omega (arith, length-reverse t, h)) ∙ ap (λ n. starts (turned p) (holds End) (drop n (reverse t))) less ∙ ap (starts (turned p) (holds End)) (sym (drop-reverse t i h)) ∙ starts-whole (turned p) (reverse (take i t)) ∙ matches-turned p (take i t);
}

says_ends : (p : Form) (t : Text) (values shown : List Bool) → shown ≡ values → values ≡ grown (starts (facing_form Backward p) (holds End)) (facing Backward t) → SaysBack shown (matches_from (matches p) t) (length t)
unfolding facing facing_form
says_ends p t values shown s e = record {
  long = ap length (s ∙ e) ∙ length-grown (starts p (holds End)) t;
  at = λ i h.
      let back : length t - (length t - i) ≡ i = omega arith in
      ap (λ v. get_or v (length t - i) false) (s ∙ e) ∙ get_or-grown (starts p (holds End)) t (length t - i) (omega arith) ∙ ap (λ n. starts p (holds End) (drop n t)) back ∙ starts-whole p (drop i t);
}

pub shortest_front : (p : Form) (t : Text) (values shown : List Bool) (place : Option ℕ) → shown ≡ values → values ≡ grown (starts (facing_form Forward p) (holds End)) (facing Forward t) → IsFirstTrue shown (length shown) place → place ≡ shortest_prefix (matches p) t
shortest_front p t values shown place s e first =
    the_least (matches_before (matches p) t) (length t) place (least_from_first shown (matches_before (matches p) t) (length t) place (says_fronts p t values shown s e) first)

pub longest_front : (p : Form) (t : Text) (values shown : List Bool) (place : Option ℕ) → shown ≡ values → values ≡ grown (starts (facing_form Forward p) (holds End)) (facing Forward t) → IsLastTrue shown (length shown) place → place ≡ longest_prefix (matches p) t
longest_front p t values shown place s e last =
    the_greatest (matches_before (matches p) t) (length t) place (greatest_from_last shown (matches_before (matches p) t) (length t) place (says_fronts p t values shown s e) last)

pub shortest_end : (p : Form) (t : Text) (values shown : List Bool) (left place : Option ℕ) → shown ≡ values → values ≡ grown (starts (facing_form Backward p) (holds End)) (facing Backward t) → IsFirstTrue shown (length shown) left → place ≡ option_map (λ n. length t - n) left → place ≡ shortest_suffix (matches p) t
shortest_end p t values shown left place s e first is =
    is ∙ the_greatest (matches_from (matches p) t) (length t) (option_map (λ n. length t - n) left) (greatest_from_first shown (matches_from (matches p) t) (length t) left (says_ends p t values shown s e) first)

pub longest_end : (p : Form) (t : Text) (values shown : List Bool) (left place : Option ℕ) → shown ≡ values → values ≡ grown (starts (facing_form Backward p) (holds End)) (facing Backward t) → IsLastTrue shown (length shown) left → place ≡ option_map (λ n. length t - n) left → place ≡ longest_suffix (matches p) t
longest_end p t values shown left place s e last is =
    is ∙ the_least (matches_from (matches p) t) (length t) (option_map (λ n. length t - n) left) (least_from_last shown (matches_from (matches p) t) (length t) left (says_ends p t values shown s e) last)

-- ---- where a match begins

starts-anywhere : (p : Form) (t : Text) → starts p (holds Anywhere) t ≡ some_cut (λ a b. matches p a) t
unfolding starts
starts-anywhere p t = some_cut-same (λ a c. matches p a && true) (λ a c. matches p a) t (λ a c. and-true (matches p a))

-- the values of a walk over the text from a place on
begins-value : (p : Form) (t : Text) (from : ℕ) (values shown : List Bool) → from ≤ length t → shown ≡ values → values ≡ grown (starts (facing_form Backward p) (holds Anywhere)) (facing Backward (drop from t)) → (i : ℕ) → from ≤ i → i ≤ length t → get_or shown (length t - i) false ≡ begins_at (matches p) t i
unfolding facing facing_form
begins-value p t from values shown h s e i l u =
    let long : length (drop from t) ≡ length t - from = length-drop from t in
    let place : from + (length (drop from t) - (length t - i)) ≡ i = omega arith in
    ap (λ v. get_or v (length t - i) false) (s ∙ e)
    ∙ get_or-grown (starts p (holds Anywhere)) (drop from t) (length t - i) (omega arith)
    ∙ starts-anywhere p (drop (length (drop from t) - (length t - i)) (drop from t))
    ∙ ap (some_cut (λ a b. matches p a)) (drop-drop (length (drop from t) - (length t - i)) from t ∙ ap (λ n. drop n t) place)

begins-long : (p : Form) (t : Text) (from : ℕ) (values shown : List Bool) → shown ≡ values → values ≡ grown (starts (facing_form Backward p) (holds Anywhere)) (facing Backward (drop from t)) → length shown ≡ (length t - from) + 1
unfolding facing facing_form
begins-long p t from values shown s e = ap length (s ∙ e) ∙ length-grown (starts p (holds Anywhere)) (drop from t) ∙ ap (λ n. n + 1) (length-drop from t)

first_from_last : (p : Form) (t : Text) (from : ℕ) (values shown : List Bool) (left : Option ℕ) → from ≤ length t → shown ≡ values → values ≡ grown (starts (facing_form Backward p) (holds Anywhere)) (facing Backward (drop from t)) → IsLastTrue shown (length shown) left → IsFirstBegin (matches p) t from (option_map (λ n. length t - n) left)
first_from_last p t from values shown None h s e last =
    λ i l u. sym (begins-value p t from values shown h s e i l u) ∙ last (length t - i) (omega (arith, begins-long p t from values shown s e))
first_from_last p t from values shown (Some k) h s e last =
    let long = begins-long p t from values shown s e in
    let below : k ≤ length t - from = omega (arith, last.0, long) in
    let back : length t - (length t - k) ≡ k = omega arith in
    (omega arith, omega arith, sym (begins-value p t from values shown h s e (length t - k) (omega arith) (omega arith)) ∙ ap (λ n. get_or shown n false) back ∙ last.1, λ i l u. sym (begins-value p t from values shown h s e i l (omega arith)) ∙ last.2 (length t - i) (omega arith) (omega (arith, long)))

pub first_begun : (p : Form) (t : Text) (from : ℕ) (values shown : List Bool) (left place : Option ℕ) → from ≤ length t → shown ≡ values → values ≡ grown (starts (facing_form Backward p) (holds Anywhere)) (facing Backward (drop from t)) → IsLastTrue shown (length shown) left → place ≡ option_map (λ n. length t - n) left → place ≡ first_begin (matches p) t from
first_begun p t from values shown left place h s e last is =
    is ∙ the_begin (matches p) t from (option_map (λ n. length t - n) left) (first_from_last p t from values shown left h s e last)
