-- What the values that an entry keeps are.
use Rattle.std.proofs.Common.{◌≡◌, ◌≢◌, ℕ, zero, suc, ◌+◌, ◌<◌, ◌==◌, Bool, true, false, ◌&&◌, ◌||◌, if◌then◌else◌, cond, List, [], ◌∷◌, ◌++◌, length, take, get_or, map, find, nat_le, nat_eq, Option, Result, Ok, Err, IfOk, Some, None, IsSome, IsTrue, IfSome, refl, sym, ap, ◌∙◌, subst, arith}
use Rattle.std.specs.List.{All, AllByRecursion, Contains, cons_option, filter_map, list_any}
use Rattle.std.specs.List.Sorted.{IsStrictlySortedBy}
use Rattle.std.specs.Option.{option_map_or}
use Rattle.std.specs.Ordering.{nat_cmp}
use Rattle.std.specs.Cmp.{nat_cmp_is}
use Rattle.std.specs.declared.cmp.Ordering.TheVariants.{Less}
use Rattle.std.proofs.lemmas.Bool.{and_parts, eqb-true}
use Rattle.std.proofs.lemmas.Bool.Decides.{nat_tests}
use Rattle.std.proofs.lemmas.List.{take_more}
use Rattle.std.proofs.lemmas.List.Elements.{All-contains, All-from_recursion, All-nil, All-weaker, filter_map-append, recursion_from_All}
use Rattle.std.specs.Result.{result_ok}
use Rattle.std.specs.Cmp.Lexicographic.{bytes_decides, pointwise}
use Rattle.eb_bytes.specs.Text.{Text, has_bytes, norm}
use Rattle.eb_digest.specs.Digest.{IsDigest}
use Rattle.eapi_tables.specs.Eapi.{eapi_number, eapi_text, has_key, since_eapi}
use Rattle.eapi_tables.specs.EclassName.{IsEclassName}
use Rattle.eapi_tables.specs.Key.{all_keys, key_place}
use Rattle.md5_cache.specs.Entry.{HasNoZero, IsEntry, eapi_of, is_complete, is_known, kept_value, kept_values, named_eapi, value_of, words_of}
use Rattle.md5_cache.specs.Record.{IsRecordOf}
use Rattle.eapi_tables.specs.declared.eapi.Eapi.{Eapi}
use Rattle.eapi_tables.specs.declared.eapi.EapiUnknown.{EapiUnknown}
use Rattle.eapi_tables.specs.declared.eapi.Eapi.TheVariants.{E0, E1, E2, E3, E4, E5, E6, E7, E8}
use Rattle.eapi_tables.specs.declared.key.Key.{Key}
use Rattle.eapi_tables.specs.declared.key.Key.TheVariants as key
use Rattle.md5_cache.proofs.Norm.{All-norm, norm-norm}

abbrev Value : Type 0
Value = Key × Text

-- ---- places tell keys apart

key_at : ℕ → Key
key_at zero = key.Bdepend
key_at (suc zero) = key.DefinedPhases
key_at (suc (suc zero)) = key.Depend
key_at (suc (suc (suc zero))) = key.Description
key_at (suc (suc (suc (suc zero)))) = key.Eapi
key_at (suc (suc (suc (suc (suc zero))))) = key.Homepage
key_at (suc (suc (suc (suc (suc (suc zero)))))) = key.Idepend
key_at (suc (suc (suc (suc (suc (suc (suc zero))))))) = key.Inherit
key_at (suc (suc (suc (suc (suc (suc (suc (suc zero)))))))) = key.Iuse
key_at (suc (suc (suc (suc (suc (suc (suc (suc (suc n))))))))) = later n
  where
    later : ℕ → Key
    later zero = key.Keywords
    later (suc zero) = key.License
    later (suc (suc zero)) = key.Pdepend
    later (suc (suc (suc zero))) = key.Properties
    later (suc (suc (suc (suc zero)))) = key.Rdepend
    later (suc (suc (suc (suc (suc zero))))) = key.RequiredUse
    later (suc (suc (suc (suc (suc (suc zero)))))) = key.Restrict
    later (suc (suc (suc (suc (suc (suc (suc zero))))))) = key.Slot
    later (suc (suc (suc (suc (suc (suc (suc (suc n)))))))) = key.SrcUri

key_at-place : (k : Key) → key_at (key_place k) ≡ k
unfolding key_at
key_at-place key.Bdepend = refl
key_at-place key.DefinedPhases = refl
key_at-place key.Depend = refl
key_at-place key.Description = refl
key_at-place key.Eapi = refl
key_at-place key.Homepage = refl
key_at-place key.Idepend = refl
key_at-place key.Inherit = refl
key_at-place key.Iuse = refl
key_at-place key.Keywords = refl
key_at-place key.License = refl
key_at-place key.Pdepend = refl
key_at-place key.Properties = refl
key_at-place key.Rdepend = refl
key_at-place key.RequiredUse = refl
key_at-place key.Restrict = refl
key_at-place key.Slot = refl
key_at-place key.SrcUri = refl

-- whether two keys stand at one place
abbrev pub same_place : Key → Key → Bool
same_place a b = key_place a == key_place b

pub same_key : (a b : Key) → same_place a b ≡ true → a ≡ b
same_key a b h = sym (key_at-place a) ∙ ap key_at (eqb-true (key_place a) (key_place b) h) ∙ key_at-place b

-- ---- what a choice of keys keeps

module _ (f : Key → Option Value) where
  kept_next : (P : Value → Type 0) (o : Option Value) (rest : List Value) → IfSome o P → AllByRecursion P rest
      → AllByRecursion P (cons_option o rest)
  kept_next P (Some v) rest p h = (p, h)
  kept_next P None rest p h = h

  all_kept : (P : Value → Type 0) → ((k : Key) → IfSome (f k) P) → (ks : List Key) → AllByRecursion P (filter_map f ks)
  all_kept P h [] = tt
  all_kept P h (k ∷ ks) = kept_next P (f k) (filter_map f ks) (h k) (all_kept P h ks)

  module _ (own : (k : Key) → IfSome (f k) (λ v. v.0 ≡ k)) where
    -- the keys stand at the places from n on
    counts : ℕ → List Key → Bool
    counts n [] = true
    counts n (k ∷ ks) = (key_place k == n) && counts (suc n) ks

    abbrev places : List Value → List ℕ
    places values = map (λ v. key_place v.0) values

    abbrev Above : ℕ → List Value → Type 0
    Above m values = AllByRecursion (λ n. nat_cmp m n ≡ Less) (places values)

    less : (m n : ℕ) → m < n → nat_cmp m n ≡ Less
    less m n h = sym (nat_cmp_is m n Less h)

    above_next : (m : ℕ) (k : Key) (o : Option Value) (rest : List Value) → m < key_place k → IfSome o (λ v. v.0 ≡ k)
        → Above m rest → Above m (cons_option o rest)
    above_next m k (Some v) rest h same more = (less m (key_place v.0) (rw same h), more)
    above_next m k None rest h same more = more

    above : (m n : ℕ) (ks : List Key) → m < n → counts n ks ≡ true → Above m (filter_map f ks)
    unfolding counts
    above m n [] h c = tt
    above m n (k ∷ ks) h c =
        let parts = and_parts (key_place k == n) (counts (suc n) ks) c in
        let e = eqb-true (key_place k) n parts.0 in
        above_next m k (f k) (filter_map f ks) (omega arith) (own k) (above m (suc n) ks (omega arith) parts.1)

    sorted_next : (k : Key) (o : Option Value) (rest : List Value) → IfSome o (λ v. v.0 ≡ k) → Above (key_place k) rest
        → IsStrictlySortedBy nat_cmp (places rest) → IsStrictlySortedBy nat_cmp (places (cons_option o rest))
    unfolding IsStrictlySortedBy
    sorted_next k (Some v) rest same more sorted = (subst (λ q. Above (key_place q) rest) (sym same) more, sorted)
    sorted_next k None rest same more sorted = sorted

    sorted_from : (n : ℕ) (ks : List Key) → counts n ks ≡ true → IsStrictlySortedBy nat_cmp (places (filter_map f ks))
    unfolding counts IsStrictlySortedBy
    sorted_from n [] c = tt
    sorted_from n (k ∷ ks) c =
        let parts = and_parts (key_place k == n) (counts (suc n) ks) c in
        let e = eqb-true (key_place k) n parts.0 in
        sorted_next k (f k) (filter_map f ks) (own k) (above (key_place k) (suc n) ks (omega arith) parts.1)
        (sorted_from (suc n) ks parts.1)

    kept_sorted : IsStrictlySortedBy nat_cmp (places (filter_map f all_keys))
    unfolding counts
    kept_sorted = sorted_from 0 all_keys refl

    -- ---- looking a key up among what was kept

    abbrev is_at : Key → Value → Bool
    is_at k v = key_place v.0 == key_place k

    same_place-refl : (k : Key) → same_place k k ≡ true
    same_place-refl k = grind (arith, nat_tests)

    passed : (k q : Key) (o : Option Value) (rest : List Value) → same_place q k ≡ false → IfSome o (λ v. v.0 ≡ q)
        → find (is_at k) (cons_option o rest) ≡ find (is_at k) rest
    passed k q (Some v) rest other same =
        ap (λ b. cond b (Some v) (find (is_at k) rest)) (ap (λ x. same_place x k) same ∙ other)
    passed k q None rest other same = refl

    found_next : (k q : Key) (w : Value) (rest : List Value) (any b : Bool) → f k ≡ Some w → w.0 ≡ k → same_place q k ≡ b
        → (b || any) ≡ true → (any ≡ true → find (is_at k) rest ≡ Some w)
        → find (is_at k) (cons_option (f q) rest) ≡ Some w
    found_next k q w rest any true fk wk e h more =
        let fq : f q ≡ Some w = ap f (same_key q k e) ∙ fk in
        let at : is_at k w ≡ true = ap (λ x. same_place x k) wk ∙ same_place-refl k in
        subst (λ o. find (is_at k) (cons_option o rest) ≡ Some w) (sym fq)
        (ap (λ b. cond b (Some w) (find (is_at k) rest)) at)
    found_next k q w rest any false fk wk e h more = passed k q (f q) rest e (own q) ∙ more h

    found : (k : Key) (w : Value) → f k ≡ Some w → w.0 ≡ k → (ks : List Key) → list_any (λ q. same_place q k) ks ≡ true
        → find (is_at k) (filter_map f ks) ≡ Some w
    found k w fk wk [] h = cc h
    found k w fk wk (q ∷ ks) h =
        found_next k q w (filter_map f ks) (list_any (λ x. same_place x k) ks) (same_place q k) fk wk refl h (found k w fk wk ks)

-- ---- the kept values of an entry

-- one more key
pub filter_map-more : (f : Key → Option Value) (ks : List Key) (i : ℕ) (d : Key) → i < length ks
    → filter_map f (take (i + 1) ks) ≡ filter_map f (take i ks) ++ cons_option (f (get_or ks i d)) []
filter_map-more f ks i d h =
    ap (filter_map f) (take_more ks i d h) ∙ filter_map-append f (take i ks) (get_or ks i d ∷ [])

module _ (values : List Value) where
  chosen : (b : Bool) (k : Key) (w : Text) (P : Value → Type 0) → (b ≡ true → P (k, w))
      → IfSome (if b then Some (k, w) else None) P
  chosen true k w P h = h refl
  chosen false k w P h = tt

  kept_has : (P : Value → Type 0)
      → ((k : Key) → is_known values k ≡ true → has_bytes (words_of k values) ≡ true → P (k, words_of k values))
      → (k : Key) → IfSome (kept_value values k) P
  kept_has P h k =
      chosen (is_known values k && has_bytes (words_of k values)) k (words_of k values) P
      (λ both. let parts = and_parts (is_known values k) (has_bytes (words_of k values)) both in h k parts.0 parts.1)

  own_key : (k : Key) → IfSome (kept_value values k) (λ v. v.0 ≡ k)
  own_key k =
      chosen (is_known values k && has_bytes (words_of k values)) k (words_of k values) (λ v. v.0 ≡ k) (λ both. refl)

  All-kept : (P : Value → Type 0)
      → ((k : Key) → is_known values k ≡ true → has_bytes (words_of k values) ≡ true → P (k, words_of k values))
      → All P (kept_values values)
  All-kept P h =
      All-from_recursion P (kept_values values) (all_kept (kept_value values) P (kept_has P h) all_keys)

  -- the words of a key that is kept stay the same
  words-kept : (k : Key) → is_known values k ≡ true → has_bytes (words_of k values) ≡ true
      → list_any (λ q. same_place q k) all_keys ≡ true → words_of k (kept_values values) ≡ words_of k values
  words-kept k known full among =
      let w : Value = (k, words_of k values) in
      let f : kept_value values k ≡ Some w = rw (known, full) refl in
      let at = found (kept_value values) own_key k w f refl all_keys among in
      ap norm (ap (λ (o : Option Value). option_map_or (λ v. v.1) o []) at) ∙ norm-norm (value_of k values)

  -- ---- no byte 0

  no_zero_at : (b : Bool) (v : Value) (o : Option Value) → HasNoZero v.1 → HasNoZero (option_map_or (λ x. x.1) o [])
      → HasNoZero (option_map_or (λ x. x.1) (cond b (Some v) o) [])
  no_zero_at true v o h k = h
  no_zero_at false v o h k = k

no_zero_of : (k : Key) (values : List Value) → AllByRecursion (λ v. HasNoZero v.1) values → HasNoZero (value_of k values)
no_zero_of k [] h = All-nil (λ b. b ≢ 0)
no_zero_of k (v ∷ vs) h =
    no_zero_at (v ∷ vs) (key_place v.0 == key_place k) v (find (λ x. key_place x.0 == key_place k) vs) h.0 (no_zero_of k vs h.1)

some_eapi : (o : Option Eapi) → IsSome o → (e : Eapi) × (o ≡ Some e)
some_eapi (Some e) h = (e, refl)
some_eapi None h = cc h

from_zero : (n : ℕ) → nat_le 0 n ≡ true
from_zero n = grind (arith, nat_tests)

abbrev eapi_has : Key → Option Eapi → Bool
eapi_has k o = option_map_or (λ e. has_key e k) o false

pub IsEntry-kept : (values : List Value) (read recorded : List (Text × Text)) (md5 : Text)
    → All (λ v. HasNoZero v.1) values → is_complete values ≡ true → IsSome (eapi_of values)
    → All (λ e. IsEclassName e.0) read → IsRecordOf read recorded → All (λ e. IsDigest e.1) recorded → IsDigest md5
    → IsEntry (record { values = kept_values values; eclasses = recorded; md5 = md5 })
IsEntry-kept values read recorded md5 clean complete named names record_of digests digest =
    let e = some_eapi (eapi_of values) named in
    let always = λ (k : Key) (h : since_eapi k ≡ 0).
    ap (eapi_has k) e.1 ∙ ap (λ n. nat_le n (eapi_number e.0)) h ∙ from_zero (eapi_number e.0) in
    let phases = and_parts (has_bytes (words_of key.DefinedPhases values)) _ complete in
    let eapi = and_parts (has_bytes (words_of key.Eapi values)) _ phases.1 in
    let slot = and_parts (has_bytes (words_of key.Slot values)) true eapi.1 in
    let phases_same = words-kept values key.DefinedPhases (always key.DefinedPhases refl) phases.0 refl in
    let eapi_same = words-kept values key.Eapi (always key.Eapi refl) eapi.0 refl in
    let slot_same = words-kept values key.Slot (always key.Slot refl) slot.0 refl in
    let same_eapi : eapi_of (kept_values values) ≡ eapi_of values = ap named_eapi eapi_same in
    record {
      eapi = subst IsSome (sym same_eapi) named;
      complete = rw (phases_same, eapi_same, slot_same) complete;
      ordered = kept_sorted (kept_value values) (own_key values);
      known = All-kept values (λ v. IsTrue (is_known (kept_values values) v.0)) (λ k known full. ap (eapi_has k) same_eapi ∙ known);
      normal = All-kept values (λ v. norm v.1 ≡ v.1) (λ k known full. norm-norm (value_of k values));
      full = All-kept values (λ v. IsTrue (has_bytes v.1)) (λ k known full. full);
      no_zero =
          All-kept values (λ v. HasNoZero v.1)
          (λ k known full.
          All-norm (λ b. b ≢ 0) (λ h. absurd (omega arith)) (value_of k values)
          (no_zero_of k values (recursion_from_All (λ v. HasNoZero v.1) values clean)));
      names =
          All-weaker (Contains read) (λ x. IsEclassName x.0) (λ x c. All-contains (λ y. IsEclassName y.0) read x names c) recorded
          record_of.only_read;
      by_name = record_of.by_name;
      digests = digests;
      digest = digest;
    }

-- ---- the EAPI of a text

named-eapi_text : (e : Eapi) → named_eapi (eapi_text e) ≡ Some e
named-eapi_text E0 = refl
named-eapi_text E1 = refl
named-eapi_text E2 = refl
named-eapi_text E3 = refl
named-eapi_text E4 = refl
named-eapi_text E5 = refl
named-eapi_text E6 = refl
named-eapi_text E7 = refl
named-eapi_text E8 = refl

passes_next : (test : Eapi → Bool) (b : Bool) (x e : Eapi) (o : Option Eapi) → test x ≡ b → (o ≡ Some e → test e ≡ true)
    → cond b (Some x) o ≡ Some e → test e ≡ true
passes_next test true x e o is later same = let s : x ≡ e = cc in subst (λ y. test y ≡ true) s is
passes_next test false x e o is later same = later same

found_passes : (test : Eapi → Bool) (es : List Eapi) (e : Eapi) → find test es ≡ Some e → test e ≡ true
found_passes test [] e h = cc h
found_passes test (x ∷ es) e h = passes_next test (test x) x e (find test es) refl (found_passes test es e) h

text-named : (text : Text) (e : Eapi) → named_eapi text ≡ Some e → text ≡ eapi_text e
text-named text e h =
    let all = E0 ∷ E1 ∷ E2 ∷ E3 ∷ E4 ∷ E5 ∷ E6 ∷ E7 ∷ E8 ∷ [] in
    sym ((bytes_decides (eapi_text e) text).0 (found_passes (λ x. pointwise nat_eq (eapi_text x) text) all e h))

-- what reads exactly the texts of EAPIs answers the EAPI of the text
pub read-is_named : (text : Text) (r : Result Eapi EapiUnknown) → IfOk r (λ e. text ≡ eapi_text e)
    → ((e : Eapi) → text ≡ eapi_text e → r ≡ Ok e) → result_ok r ≡ named_eapi text
read-is_named text (Ok e) written each = sym (ap named_eapi written ∙ named-eapi_text e)
read-is_named text (Err u) written each = unread (named_eapi text) refl
  where
    unread : (o : Option Eapi) → named_eapi text ≡ o → None ≡ o
    unread None is = refl
    unread (Some e) is = let read = each e (text-named text e is) in cc read
