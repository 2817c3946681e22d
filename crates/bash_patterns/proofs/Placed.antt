-- The least and the greatest place that passes, and the leftmost match.
use Rattle.std.proofs.Common.{◌≡◌, ℕ, zero, suc, ◌+◌, ◌-◌, ◌<◌, ◌≤◌, Bool, true, false, ◌&&◌, nat_le, take, drop, length, Option, Some, None, if◌then◌else◌, refl, ap, subst, sym, ◌∙◌, ◌⊎◌, inl, inr, arith, length-append, length-drop}
use Rattle.std.specs.Option.{option_and_then, option_map, option_or}
use Rattle.std.proofs.lemmas.Bool.{and_from, cases_lt, cases_order, le-leb, lt-leb, leb-true}
use Rattle.std.proofs.lemmas.List.{take_at}
use Rattle.eb_bytes.specs.Text.{Text}
use Rattle.bash_patterns.specs.Places.{IsFirstBegin, IsGreatest, IsLeast, IsLeftmost, begins_at, first_begin, greatest, least, leftmost, longest_at, longest_prefix, matches_before}
use Rattle.bash_patterns.proofs.Parted.{cut_of}

never : (x : Bool) → x ≡ true → x ≡ false → ⊥
never x t f = let wrong : true ≡ false = sym t ∙ f in cc

-- ---- the least and the greatest

pub least-is : (test : ℕ → Bool) (n : ℕ) → IsLeast test n (least test n)
unfolding least
least-is test zero = on (test 0) refl
  where
    on : (v : Bool) → test 0 ≡ v → IsLeast test 0 (if v then Some 0 else None)
    on true e = (omega arith, e, λ i h. absurd (omega arith))
    on false e = λ i h. let zero_ : i ≡ 0 = omega arith in ap test zero_ ∙ e
least-is test (suc n) = on (least test n) (least-is test n) (test (suc n)) refl
  where
    on : (o : Option ℕ) → IsLeast test n o → (v : Bool) → test (suc n) ≡ v → IsLeast test (suc n) (option_or o (if v then Some (suc n) else None))
    on (Some k) is v e = (omega (arith, is.0), is.1, is.2)
    on None is true e = (omega arith, e, λ i h. is i (omega arith))
    on None is false e = λ i h. last i h (cases_lt i (suc n))
      where
        last : (i : ℕ) → i ≤ suc n → (i < suc n) ⊎ (suc n ≤ i) → test i ≡ false
        last i h (inl below) = is i (omega arith)
        last i h (inr above) = let same : i ≡ suc n = omega arith in ap test same ∙ e

pub greatest-is : (test : ℕ → Bool) (n : ℕ) → IsGreatest test n (greatest test n)
unfolding greatest
greatest-is test zero = on (test 0) refl
  where
    on : (v : Bool) → test 0 ≡ v → IsGreatest test 0 (if v then Some 0 else None)
    on true e = (omega arith, e, λ i h l. absurd (omega arith))
    on false e = λ i h. let zero_ : i ≡ 0 = omega arith in ap test zero_ ∙ e
greatest-is test (suc n) = on (test (suc n)) refl (greatest test n) (greatest-is test n)
  where
    on : (v : Bool) → test (suc n) ≡ v → (o : Option ℕ) → IsGreatest test n o → IsGreatest test (suc n) (if v then Some (suc n) else o)
    on true e o is = (omega arith, e, λ i h l. absurd (omega arith))
    on false e None is = λ i h. last i h (cases_lt i (suc n))
      where
        last : (i : ℕ) → i ≤ suc n → (i < suc n) ⊎ (suc n ≤ i) → test i ≡ false
        last i h (inl below) = is i (omega arith)
        last i h (inr above) = let same : i ≡ suc n = omega arith in ap test same ∙ e
    on false e (Some k) is = (omega (arith, is.0), is.1, λ i h l. last i h l (cases_lt i (suc n)))
      where
        last : (i : ℕ) → k < i → i ≤ suc n → (i < suc n) ⊎ (suc n ≤ i) → test i ≡ false
        last i h l (inl below) = is.2 i h (omega arith)
        last i h l (inr above) = let same : i ≡ suc n = omega arith in ap test same ∙ e

-- two places that are the least are one
one_least : (test : ℕ → Bool) (n : ℕ) (p q : Option ℕ) → IsLeast test n p → IsLeast test n q → p ≡ q
one_least test n None None h l = refl
one_least test n None (Some k) h l = absurd (never (test k) l.1 (h k l.0))
one_least test n (Some j) None h l = absurd (never (test j) h.1 (l j h.0))
one_least test n (Some j) (Some k) h l = on (cases_order j k)
  where
    on : (j ≡ k) ⊎ ((j < k) ⊎ (k < j)) → Some j ≡ Some k
    on (inl e) = ap Some e
    on (inr (inl e)) = absurd (never (test j) h.1 (l.2 j e))
    on (inr (inr e)) = absurd (never (test k) l.1 (h.2 k e))

one_greatest : (test : ℕ → Bool) (n : ℕ) (p q : Option ℕ) → IsGreatest test n p → IsGreatest test n q → p ≡ q
one_greatest test n None None h l = refl
one_greatest test n None (Some k) h l = absurd (never (test k) l.1 (h k l.0))
one_greatest test n (Some j) None h l = absurd (never (test j) h.1 (l j h.0))
one_greatest test n (Some j) (Some k) h l = on (cases_order j k)
  where
    on : (j ≡ k) ⊎ ((j < k) ⊎ (k < j)) → Some j ≡ Some k
    on (inl e) = ap Some e
    on (inr (inl e)) = absurd (never (test k) l.1 (h.2 k e l.0))
    on (inr (inr e)) = absurd (never (test j) h.1 (l.2 j e h.0))

pub the_least : (test : ℕ → Bool) (n : ℕ) (p : Option ℕ) → IsLeast test n p → p ≡ least test n
the_least test n p h = one_least test n p (least test n) h (least-is test n)

pub the_greatest : (test : ℕ → Bool) (n : ℕ) (p : Option ℕ) → IsGreatest test n p → p ≡ greatest test n
the_greatest test n p h = one_greatest test n p (greatest test n) h (greatest-is test n)

-- ---- where a match begins

begun_least : (m : Text → Bool) (t : Text) (from : ℕ) (p : Option ℕ) → IsFirstBegin m t from p → IsLeast (λ i. nat_le from i && begins_at m t i) (length t) p
begun_least m t from None first = λ i h. on i h (cases_lt i from)
  where
    on : (i : ℕ) → i ≤ length t → (i < from) ⊎ (from ≤ i) → (nat_le from i && begins_at m t i) ≡ false
    on i h (inl below) = ap (λ v. v && begins_at m t i) (lt-leb from i below)
    on i h (inr above) = ap (λ v. v && begins_at m t i) (le-leb from i above) ∙ first i above h
begun_least m t from (Some k) first = (first.1, and_from (nat_le from k) (begins_at m t k) (le-leb from k first.0) first.2, λ i h. on i h (cases_lt i from))
  where
    on : (i : ℕ) → i < k → (i < from) ⊎ (from ≤ i) → (nat_le from i && begins_at m t i) ≡ false
    on i h (inl below) = ap (λ v. v && begins_at m t i) (lt-leb from i below)
    on i h (inr above) = ap (λ v. v && begins_at m t i) (le-leb from i above) ∙ first.3 i above h

pub the_begin : (m : Text → Bool) (t : Text) (from : ℕ) (p : Option ℕ) → IsFirstBegin m t from p → p ≡ first_begin m t from
the_begin m t from p h = the_least (λ i. nat_le from i && begins_at m t i) (length t) p (begun_least m t from p h)

least_begun : (m : Text → Bool) (t : Text) (from : ℕ) (p : Option ℕ) → IsLeast (λ i. nat_le from i && begins_at m t i) (length t) p → IsFirstBegin m t from p
least_begun m t from None least_ = λ i h l. ap (λ v. v && begins_at m t i) (sym (le-leb from i h)) ∙ least_ i l
least_begun m t from (Some k) least_ = on (nat_le from k) refl least_.1
  where
    on : (v : Bool) → nat_le from k ≡ v → (v && begins_at m t k) ≡ true → IsFirstBegin m t from (Some k)
    on true e h = (leb-true from k e, least_.0, h, λ i h l. ap (λ v. v && begins_at m t i) (sym (le-leb from i h)) ∙ least_.2 i l)
    on false e h = absurd (let wrong : false ≡ true = h in cc)

pub first_begin-is : (m : Text → Bool) (t : Text) (from : ℕ) → IsFirstBegin m t from (first_begin m t from)
first_begin-is m t from = least_begun m t from (first_begin m t from) (least-is (λ i. nat_le from i && begins_at m t i) (length t))

-- ---- the leftmost match

-- a match that begins somewhere ends somewhere
match_ends : (m : Text → Bool) (t : Text) (begin : ℕ) → begins_at m t begin ≡ true → IsGreatest (matches_before m (drop begin t)) (length (drop begin t)) None → ⊥
match_ends m t begin h none =
    let cut = cut_of (λ a b. m a) (drop begin t) h in
    let short : length cut.front ≤ length (drop begin t) = omega (arith, ap length cut.whole, length-append cut.front cut.back) in
    let front : take (length cut.front) (drop begin t) ≡ cut.front = ap (take (length cut.front)) (sym cut.whole) ∙ take_at cut.front cut.back (length cut.front) refl in
    never (m cut.front) cut.passed (ap m (sym front) ∙ none (length cut.front) short)

leftmost_at : (m : Text → Bool) (t : Text) (from begin size : ℕ) → IsFirstBegin m t from (Some begin) → IsGreatest (matches_before m (drop begin t)) (length (drop begin t)) (Some size) → IsLeftmost m t from (Some (begin, begin + size))
leftmost_at m t from begin size first last =
    let long : length (drop begin t) ≡ length t - begin = length-drop begin t in
    let back : begin + size - begin ≡ size = omega arith in
    record {
      not_before = first.0;
      in_order = omega arith;
      in_text = omega (arith, long, first.1, last.0);
      matched = ap (λ n. m (take n (drop begin t))) back ∙ last.1;
      first = first.3;
      longest = λ j h l. last.2 (j - begin) (omega arith) (omega (arith, long));
    }

pub leftmost-is : (m : Text → Bool) (t : Text) (from : ℕ) → IsLeftmost m t from (leftmost m t from)
unfolding leftmost
leftmost-is m t from = on (first_begin m t from) (first_begin-is m t from)
  where
    ended : (begin : ℕ) (last : Option ℕ) → IsFirstBegin m t from (Some begin) → IsGreatest (matches_before m (drop begin t)) (length (drop begin t)) last → IsLeftmost m t from (option_map (λ n. (begin, begin + n)) last)
    ended begin None first last = absurd (match_ends m t begin first.2 last)
    ended begin (Some size) first last = leftmost_at m t from begin size first last

    on : (p : Option ℕ) → IsFirstBegin m t from p → IsLeftmost m t from (option_and_then (longest_at m t) p)
    on None first = first
    on (Some begin) first = ended begin (longest_prefix m (drop begin t)) first (greatest-is (matches_before m (drop begin t)) (length (drop begin t)))

-- no match begins after the text's end
pub none_past : (m : Text → Bool) (t : Text) (from : ℕ) → length t < from → None ≡ leftmost m t from
unfolding leftmost
none_past m t from h = ap (option_and_then (longest_at m t)) (the_begin m t from None (λ i l u. absurd (omega arith)))

pub begin_fits : (m : Text → Bool) (t : Text) (from begin : ℕ) (first : Option ℕ) → first ≡ first_begin m t from → first ≡ Some begin → begin ≤ length t
begin_fits m t from begin first f fe =
    let P : Option ℕ → Type 0 = λ o. IsFirstBegin m t from o in
    let begun = subst P (sym f ∙ fe) (first_begin-is m t from) in
    begun.1

-- what a search for the begin and a search for the end from there give
pub leftmost_found : (m : Text → Bool) (t rest : Text) (from begin : ℕ) (first last : Option ℕ) → first ≡ first_begin m t from → first ≡ Some begin → rest ≡ drop begin t → last ≡ longest_prefix m rest → option_map (λ n. (begin, begin + n)) last ≡ leftmost m t from
unfolding leftmost
leftmost_found m t rest from begin first last f fe r l =
    ap (option_map (λ n. (begin, begin + n))) (l ∙ ap (longest_prefix m) r) ∙ ap (option_and_then (longest_at m t)) (sym fe ∙ f)

-- it ends in the text
pub leftmost_fits : (m : Text → Bool) (t rest : Text) (from begin size : ℕ) (first last : Option ℕ) → first ≡ first_begin m t from → first ≡ Some begin → rest ≡ drop begin t → last ≡ longest_prefix m rest → last ≡ Some size → begin + size ≤ length t
leftmost_fits m t rest from begin size first last f fe r l le =
    let P : Option ℕ → Type 0 = λ o. IsFirstBegin m t from o in
    let Q : Option ℕ → Type 0 = λ o. IsGreatest (matches_before m rest) (length rest) o in
    let begun = subst P (sym f ∙ fe) (first_begin-is m t from) in
    let ended = subst Q (sym l ∙ le) (greatest-is (matches_before m rest) (length rest)) in
    omega (arith, begun.1, ended.0, ap length r, length-drop begin t)

pub leftmost_none : (m : Text → Bool) (t : Text) (from : ℕ) (first : Option ℕ) → first ≡ first_begin m t from → first ≡ None → None ≡ leftmost m t from
unfolding leftmost
leftmost_none m t from first f fe = ap (option_and_then (longest_at m t)) (sym fe ∙ f)
