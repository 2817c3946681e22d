-- The order of versions is the order of their keys, which is total.
use Rattle.std.proofs.Common.{◌≡◌, ◌≢◌, ◌⊎◌, inl, inr, ℕ, ◌<◌, ◌≤◌, nat_le, Bool, true, false, ◌||◌, cond, List, [], ◌∷◌, ◌++◌, map, reverse, refl, ap, sym, ◌∙◌, arith}
use Rattle.std.specs.Prelude.{IsTrue}
use Rattle.std.specs.declared.cmp.Ordering.{Ordering}
use Rattle.std.specs.declared.cmp.Ordering.TheVariants.{Less, Equal, Greater}
use Rattle.std.specs.List.{list_all}
use Rattle.std.specs.Option.{option_cmp}
use Rattle.std.specs.Ordering.{nat_cmp, ordering_then, ordering_reverse, is_le, on, then_cmp}
use Rattle.std.specs.Cmp.{IsTotalOrder, nat_cmp_is, nat_cmp_total, on_total, then_total}
use Rattle.std.specs.Cmp.Lexicographic.{slice_cmp, lists_total, options_total, nat_list_cmp_total}
use Rattle.std.proofs.lemmas.Bool.{eqb-true, eqb-false, leb-true}
use Rattle.std.proofs.lemmas.List.{reverse-append}
use Rattle.eb_bytes.specs.Text.{Text}
use Rattle.version_funcs.specs.declared.kind.SuffixKind.{SuffixKind}
use Rattle.version_funcs.specs.declared.kind.SuffixKind.TheVariants.{Alpha, Beta, Pre, Candidate, Patch}
use Rattle.byte_class.specs.Class.{is_digit, is_zero}
use Rattle.version_funcs.specs.Byte.{after_while}
use Rattle.version_funcs.specs.Version.{Suffix, Version, IsWellFormed, is_number, kind_rank}
use Rattle.version_funcs.specs.Number.{number, number_order}
use Rattle.version_funcs.specs.Order.{begins_with_zero, without_last_zeros, component_order, suffix_order, suffixes_order, longer_order, revision_digits, version_order}
use Rattle.version_funcs.specs.Laws.{IsReflexive, IsAntisymmetric, IsTransitive}
use Rattle.version_funcs.proofs.Runs.{after_while-goes_on, after_while-stops}
use Rattle.version_funcs.proofs.Marks.{first_true, rest_true}

then_Equal : (o : Ordering) → ordering_then o Equal ≡ o
then_Equal Less = refl
then_Equal Equal = refl
then_Equal Greater = refl

-- ---- components

-- a run at the front reaches the last byte, or that byte stays
after_while-last : (p : ℕ → Bool) (t : Text) (d : ℕ) → (after_while p (t ++ d ∷ []) ≡ after_while p t ++ d ∷ []) ⊎ ((after_while p (t ++ d ∷ []) ≡ []) × (p d ≡ true))
after_while-last p [] d = on (p d) refl
  where
    on : (v : Bool) → p d ≡ v → (after_while p (d ∷ []) ≡ d ∷ []) ⊎ ((after_while p (d ∷ []) ≡ []) × (p d ≡ true))
    on true e = inr (after_while-goes_on p d [] e, e)
    on false e = inl (after_while-stops p d [] e)
after_while-last p (b ∷ t) d = on (p b) refl (after_while-last p t d)
  where
    on : (v : Bool) → p b ≡ v → (after_while p (t ++ d ∷ []) ≡ after_while p t ++ d ∷ []) ⊎ ((after_while p (t ++ d ∷ []) ≡ []) × (p d ≡ true)) → (after_while p (b ∷ (t ++ d ∷ [])) ≡ after_while p (b ∷ t) ++ d ∷ []) ⊎ ((after_while p (b ∷ (t ++ d ∷ [])) ≡ []) × (p d ≡ true))
    on true e (inl stays) = inl (after_while-goes_on p b (t ++ d ∷ []) e ∙ stays ∙ ap (λ (u : Text). u ++ d ∷ []) (sym (after_while-goes_on p b t e)))
    on true e (inr gone) = inr (after_while-goes_on p b (t ++ d ∷ []) e ∙ gone.0, gone.1)
    on false e rest = inl (after_while-stops p b (t ++ d ∷ []) e ∙ ap (λ (u : Text). u ++ d ∷ []) (sym (after_while-stops p b t e)))

-- without its last zeros a text begins as before, or it was all zeros
begins_alike : (d : ℕ) (t : Text) → ((rest : Text) × (without_last_zeros (d ∷ t) ≡ d ∷ rest)) ⊎ ((without_last_zeros (d ∷ t) ≡ []) × (is_zero d ≡ true))
begins_alike d t =
    let backwards : reverse (d ∷ t) ≡ reverse t ++ d ∷ [] = reverse-append (d ∷ []) t in
    elim (after_while-last is_zero (reverse t) d) [
      | inl stays ↦ inl (reverse (after_while is_zero (reverse t)), ap (λ (u : Text). reverse (after_while is_zero u)) backwards ∙ ap reverse stays ∙ reverse-append (after_while is_zero (reverse t)) (d ∷ []))
      | inr gone ↦ inr (ap (λ (u : Text). reverse (after_while is_zero u)) backwards ∙ ap reverse gone.0, gone.1)
    ]

-- one that begins with a zero is below one that begins with another digit
zero_below : (a : Text) (d : ℕ) (rest : Text) → 48 < d → (((r : Text) × (a ≡ 48 ∷ r)) ⊎ (a ≡ [])) → slice_cmp nat_cmp a (d ∷ rest) ≡ Less
zero_below a d rest more (inl (r, e)) = ap (λ (u : Text). slice_cmp nat_cmp u (d ∷ rest)) e ∙ ap (λ (o : Ordering). ordering_then o (slice_cmp nat_cmp r rest)) (sym (nat_cmp_is 48 d Less more))
zero_below a d rest more (inr e) = ap (λ (u : Text). slice_cmp nat_cmp u (d ∷ rest)) e

zero_front : (d : ℕ) (t : Text) → is_zero d ≡ true → ((r : Text) × (without_last_zeros (d ∷ t) ≡ 48 ∷ r)) ⊎ (without_last_zeros (d ∷ t) ≡ [])
zero_front d t zero_digit = elim (begins_alike d t) [
  | inl stays ↦ inl (stays.0, stays.1 ∙ ap (λ (b : ℕ). b ∷ stays.0) (eqb-true d 48 zero_digit))
  | inr gone ↦ inr gone.0
]

other_front : (d : ℕ) (t : Text) → is_zero d ≡ false → (r : Text) × (without_last_zeros (d ∷ t) ≡ d ∷ r)
other_front d t other = elim (begins_alike d t) [
  | inl stays ↦ stays
  | inr gone ↦ absurd (let both : true ≡ false = sym gone.1 ∙ other in cc)
]

above_zero : (d : ℕ) → is_digit d ≡ true → is_zero d ≡ false → 48 < d
above_zero d digit other =
    let low : 48 ≤ d = leb-true 48 d (first_true (nat_le 48 d) (nat_le d 57) digit) in
    let differs : d ≢ 48 = eqb-false d 48 other in
    omega arith

mixed_order : (d : ℕ) (s : Text) (e : ℕ) (t : Text) → is_zero d ≡ true → is_zero e ≡ false → is_digit e ≡ true → slice_cmp nat_cmp (without_last_zeros (d ∷ s)) (without_last_zeros (e ∷ t)) ≡ Less
mixed_order d s e t zero_digit other digit =
    let front = other_front e t other in
    ap (slice_cmp nat_cmp (without_last_zeros (d ∷ s))) front.1
    ∙ zero_below (without_last_zeros (d ∷ s)) e front.0 (above_zero e digit other) (zero_front d s zero_digit)

abbrev key_by : Bool → Text → List ℕ
key_by true c = 0 ∷ without_last_zeros c
key_by false c = 1 ∷ number c ∷ []

abbrev component_key : Text → List ℕ
component_key c = key_by (begins_with_zero c) c

component_order-key : (a b : Text) → is_number a ≡ true → is_number b ≡ true → component_order a b ≡ slice_cmp nat_cmp (component_key a) (component_key b)
component_order-key [] b number_a number_b = absurd (cc)
component_order-key (d ∷ s) [] number_a number_b = absurd (cc)
component_order-key (d ∷ s) (e ∷ t) number_a number_b = on (is_zero d) (is_zero e) refl refl
  where
    digit_d : is_digit d ≡ true
    digit_d = first_true (is_digit d) (list_all is_digit s) number_a

    digit_e : is_digit e ≡ true
    digit_e = first_true (is_digit e) (list_all is_digit t) number_b

    on : (v w : Bool) → is_zero d ≡ v → is_zero e ≡ w → cond (v || w) (slice_cmp nat_cmp (without_last_zeros (d ∷ s)) (without_last_zeros (e ∷ t))) (number_order (d ∷ s) (e ∷ t)) ≡ slice_cmp nat_cmp (key_by v (d ∷ s)) (key_by w (e ∷ t))
    on true true p q = refl
    on true false p q = mixed_order d s e t p q digit_e
    on false true p q = nat_list_cmp_total.antisymm (without_last_zeros (d ∷ s)) (without_last_zeros (e ∷ t)) ∙ ap ordering_reverse (mixed_order e t d s q p digit_d)
    on false false p q = sym (then_Equal (number_order (d ∷ s) (e ∷ t)))

components_order-key : (xs ys : List Text) → list_all is_number xs ≡ true → list_all is_number ys ≡ true → slice_cmp component_order xs ys ≡ slice_cmp (slice_cmp nat_cmp) (map component_key xs) (map component_key ys)
components_order-key [] [] all_x all_y = refl
components_order-key [] (y ∷ ys) all_x all_y = refl
components_order-key (x ∷ xs) [] all_x all_y = refl
components_order-key (x ∷ xs) (y ∷ ys) all_x all_y =
    ap (λ (o : Ordering). ordering_then o (slice_cmp component_order xs ys)) (component_order-key x y (first_true (is_number x) (list_all is_number xs) all_x) (first_true (is_number y) (list_all is_number ys) all_y))
    ∙ ap (ordering_then (slice_cmp nat_cmp (component_key x) (component_key y))) (components_order-key xs ys (rest_true (is_number x) (list_all is_number xs) all_x) (rest_true (is_number y) (list_all is_number ys) all_y))

-- ---- suffixes

-- the place of a kind among the kinds and the end of the list, which is 4
abbrev place : SuffixKind → ℕ
place Alpha = 0
place Beta = 1
place Pre = 2
place Candidate = 3
place Patch = 5

place-order : (k l : SuffixKind) → nat_cmp (kind_rank k) (kind_rank l) ≡ nat_cmp (place k) (place l)
place-order Alpha Alpha = refl
place-order Alpha Beta = refl
place-order Alpha Pre = refl
place-order Alpha Candidate = refl
place-order Alpha Patch = refl
place-order Beta Alpha = refl
place-order Beta Beta = refl
place-order Beta Pre = refl
place-order Beta Candidate = refl
place-order Beta Patch = refl
place-order Pre Alpha = refl
place-order Pre Beta = refl
place-order Pre Pre = refl
place-order Pre Candidate = refl
place-order Pre Patch = refl
place-order Candidate Alpha = refl
place-order Candidate Beta = refl
place-order Candidate Pre = refl
place-order Candidate Candidate = refl
place-order Candidate Patch = refl
place-order Patch Alpha = refl
place-order Patch Beta = refl
place-order Patch Pre = refl
place-order Patch Candidate = refl
place-order Patch Patch = refl

abbrev suffix_key : Suffix → List ℕ
suffix_key s = place s.kind ∷ number s.number ∷ []

abbrev suffixes_key : List Suffix → List (List ℕ)
suffixes_key [] = (4 ∷ []) ∷ []
suffixes_key (s ∷ ss) = suffix_key s ∷ suffixes_key ss

end_first : (kind : SuffixKind) (n : ℕ) (more : Ordering) → ordering_reverse (longer_order kind) ≡ ordering_then (slice_cmp nat_cmp (4 ∷ []) (place kind ∷ n ∷ [])) more
end_first Alpha n more = refl
end_first Beta n more = refl
end_first Pre n more = refl
end_first Candidate n more = refl
end_first Patch n more = refl

end_second : (kind : SuffixKind) (n : ℕ) (more : Ordering) → longer_order kind ≡ ordering_then (slice_cmp nat_cmp (place kind ∷ n ∷ []) (4 ∷ [])) more
end_second Alpha n more = refl
end_second Beta n more = refl
end_second Pre n more = refl
end_second Candidate n more = refl
end_second Patch n more = refl

suffix_order-key : (s r : Suffix) → suffix_order s r ≡ slice_cmp nat_cmp (suffix_key s) (suffix_key r)
suffix_order-key s r =
    ap (λ (o : Ordering). ordering_then o (number_order s.number r.number)) (place-order s.kind r.kind)
    ∙ ap (ordering_then (nat_cmp (place s.kind) (place r.kind))) (sym (then_Equal (number_order s.number r.number)))

suffixes_order-key : (ss rs : List Suffix) → suffixes_order ss rs ≡ slice_cmp (slice_cmp nat_cmp) (suffixes_key ss) (suffixes_key rs)
suffixes_order-key [] [] = refl
suffixes_order-key [] (r ∷ rs) = end_first r.kind (number r.number) (slice_cmp (slice_cmp nat_cmp) [] (suffixes_key rs))
suffixes_order-key (s ∷ ss) [] = end_second s.kind (number s.number) (slice_cmp (slice_cmp nat_cmp) (suffixes_key ss) [])
suffixes_order-key (s ∷ ss) (r ∷ rs) =
    ap (λ (o : Ordering). ordering_then o (suffixes_order ss rs)) (suffix_order-key s r)
    ∙ ap (ordering_then (slice_cmp nat_cmp (suffix_key s) (suffix_key r))) (suffixes_order-key ss rs)

-- ---- versions

abbrev first_key : Version → ℕ
first_key v = number v.first

abbrev later_key : Version → List (List ℕ)
later_key v = map component_key v.later

abbrev suffix_keys : Version → List (List ℕ)
suffix_keys v = suffixes_key v.suffixes

abbrev revision_key : Version → ℕ
revision_key v = number (revision_digits v.revision)

abbrev key_order : Version → Version → Ordering
key_order = then_cmp (on first_key nat_cmp) (then_cmp (on later_key (slice_cmp (slice_cmp nat_cmp))) (then_cmp (on (λ (v : Version). v.letter) (option_cmp nat_cmp)) (then_cmp (on suffix_keys (slice_cmp (slice_cmp nat_cmp))) (on revision_key nat_cmp))))

key_order_total : IsTotalOrder key_order
key_order_total =
    then_total (on_total first_key nat_cmp_total)
    (then_total (on_total later_key (lists_total nat_list_cmp_total))
    (then_total (on_total (λ (v : Version). v.letter) (options_total nat_cmp_total))
    (then_total (on_total suffix_keys (lists_total nat_list_cmp_total))
    (on_total revision_key nat_cmp_total))))

version_order-key : (v w : Version) → IsWellFormed v → IsWellFormed w → version_order v w ≡ key_order v w
version_order-key v w well_v well_w =
    ap (λ (o : Ordering). ordering_then (number_order v.first w.first) (ordering_then o (ordering_then (option_cmp nat_cmp v.letter w.letter) (ordering_then (suffixes_order v.suffixes w.suffixes) (number_order (revision_digits v.revision) (revision_digits w.revision)))))) (components_order-key v.later w.later well_v.later_are well_w.later_are)
    ∙ ap (λ (o : Ordering). ordering_then (number_order v.first w.first) (ordering_then (slice_cmp (slice_cmp nat_cmp) (later_key v) (later_key w)) (ordering_then (option_cmp nat_cmp v.letter w.letter) (ordering_then o (number_order (revision_digits v.revision) (revision_digits w.revision)))))) (suffixes_order-key v.suffixes w.suffixes)

-- ---- laws

own_reverse : (o : Ordering) → o ≡ ordering_reverse o → o ≡ Equal
own_reverse Less h = absurd (cc)
own_reverse Equal h = refl
own_reverse Greater h = absurd (cc)

pub order_reflexive : IsReflexive
order_reflexive v well = version_order-key v v well well ∙ own_reverse (key_order v v) (key_order_total.antisymm v v)

pub order_antisymmetric : IsAntisymmetric
order_antisymmetric v w well_v well_w = version_order-key v w well_v well_w ∙ key_order_total.antisymm v w ∙ ap ordering_reverse (sym (version_order-key w v well_w well_v))

le_chain : (u v w : Version) (o p : Ordering) → key_order u v ≡ o → key_order v w ≡ p → IsTrue (is_le o) → IsTrue (is_le p) → IsTrue (is_le (key_order u w))
le_chain u v w Less Less e f h k = ap is_le (key_order_total.trans u v w e f)
le_chain u v w Less Equal e f h k =
    let turned : key_order w v ≡ Equal = key_order_total.antisymm w v ∙ ap ordering_reverse f in
    let same : key_order w u ≡ key_order v u = key_order_total.congr w v u turned in
    ap is_le (key_order_total.antisymm u w ∙ ap ordering_reverse same ∙ sym (key_order_total.antisymm u v) ∙ e)
le_chain u v w Less Greater e f h k = absurd (cc)
le_chain u v w Equal p e f h k = ap is_le (key_order_total.congr u v w e ∙ f) ∙ k
le_chain u v w Greater p e f h k = absurd (cc)

pub order_transitive : IsTransitive
order_transitive u v w well_u well_v well_w h k =
    ap is_le (version_order-key u w well_u well_w)
    ∙ le_chain u v w (key_order u v) (key_order v w) refl refl (ap is_le (sym (version_order-key u v well_u well_v)) ∙ h) (ap is_le (sym (version_order-key v w well_v well_w)) ∙ k)
