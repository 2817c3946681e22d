-- The record of eclasses can be read in one way only.
use Rattle.std.proofs.Common.{◌≡◌, ◌≢◌, ℕ, ◌<◌, true, false, List, [], ◌∷◌, ◌++◌, drop, Option, Some, None, refl, sym, ap, subst, ◌∙◌, append-nil, append_assoc, arith}
use Rattle.std.specs.List.{All, AllPass, flat_map}
use Rattle.std.proofs.lemmas.Bool.Decides.{nat_tests}
use Rattle.std.proofs.lemmas.List.Elements.{All-append, All-cons, All-head, All-nil, All-tail}
use Rattle.eb_digest.specs.Digest.{IsDigest, digest_text, is_lower_digit}
use Rattle.eb_digest.proofs.Digits.{IsDigestText-digest_text, digest-read}
use Rattle.eapi_tables.specs.EclassName.{is_eclass_name_byte}
use Rattle.eapi_tables.proofs.Runs.{starts}
use Rattle.eb_bytes.specs.Text.{Text}
use Rattle.md5_cache.specs.Parts.{IsEclass, Lacks, after_eclass, differs, record_with}
use Rattle.md5_cache.specs.Record.{eclass_text, record_text}
use Rattle.md5_cache.proofs.Cuts.{cut_one, run_one, weaker}

abbrev Pair : Type 0
Pair = Text × Text

-- ---- digests

digit-differs : (c b : ℕ) → c < 48 → is_lower_digit b ≡ true → differs c b ≡ true
digit-differs c b h d = grind (arith, nat_tests)

-- a digest's text has no byte below the digits
pub digest-lacks : (c : ℕ) (d : Text) → c < 48 → IsDigest d → Lacks c (digest_text d)
digest-lacks c d h is = weaker is_lower_digit (differs c) (digest_text d) (λ b. digit-differs c b h) (IsDigestText-digest_text d is).lower

pub digest_text-one : (d e : Text) → IsDigest d → IsDigest e → digest_text d ≡ digest_text e → d ≡ e
digest_text-one d e hd he same =
    let first = digest-read (digest_text d) d hd refl in
    let second = digest-read (digest_text d) e he same in
    cc

-- ---- an eclass

name-differs : (c b : ℕ) → c < 45 → is_eclass_name_byte b ≡ true → differs c b ≡ true
name-differs c b h d = grind (arith, nat_tests)

pub name-lacks : (c : ℕ) (name : Text) → c < 45 → AllPass is_eclass_name_byte name → Lacks c name
name-lacks c name h all = weaker is_eclass_name_byte (differs c) name (λ b. name-differs c b h) all

pub eclass_parts : (e : Pair) (x : Text) → eclass_text e ++ x ≡ e.0 ++ (9 ∷ (digest_text e.1 ++ x))
eclass_parts e x = simp append_assoc

pub stops : (x : Option Text) → starts (differs 9) (after_eclass x) ≡ false
stops None = refl
stops (Some t) = refl

abbrev with_md5 : Text → Text → Pair
with_md5 name md5 = (name, md5)

pair : (e f : Pair) → e.0 ≡ f.0 → e.1 ≡ f.1 → e ≡ f
pair e f name md5 = ap (λ n. with_md5 n e.1) name ∙ ap (with_md5 f.0) md5

-- two eclasses, each followed by nothing or by a tab
pub eclass_one : (e f : Pair) (x y : Option Text) → IsEclass e → IsEclass f
    → eclass_text e ++ after_eclass x ≡ eclass_text f ++ after_eclass y → (e ≡ f) × (after_eclass x ≡ after_eclass y)
eclass_one e f x y he hf same =
    let front = cut_one 9 e.0 (digest_text e.1 ++ after_eclass x) f.0 (digest_text f.1 ++ after_eclass y)
    (name-lacks 9 e.0 (omega arith) he.name.bytes) (name-lacks 9 f.0 (omega arith) hf.name.bytes)
    (sym (eclass_parts e (after_eclass x)) ∙ same ∙ eclass_parts f (after_eclass y)) in
    let back = run_one (differs 9) (digest_text e.1) (after_eclass x) (digest_text f.1) (after_eclass y)
    (digest-lacks 9 e.1 (omega arith) he.digest) (digest-lacks 9 f.1 (omega arith) hf.digest) (stops x) (stops y) front.1 in
    let name : e.0 ≡ f.0 = front.0 in
    let md5 : e.1 ≡ f.1 = digest_text-one e.1 f.1 he.digest hf.digest back.0 in
    (pair e f name md5, back.1)

-- ---- a record

-- what follows the first eclass
abbrev pub others : List Pair → Option Text
others [] = None
others (e ∷ es) = Some (record_text (e ∷ es))

pub record-first : (e : Pair) (es : List Pair) → record_text (e ∷ es) ≡ eclass_text e ++ after_eclass (others es)
record-first e [] = sym (append-nil (eclass_text e))
record-first e (f ∷ es) = refl

others-one : (es fs : List Pair) → All IsEclass es → All IsEclass fs → after_eclass (others es) ≡ after_eclass (others fs) → es ≡ fs
others-one [] [] he hf same = refl
others-one [] (f ∷ fs) he hf same = cc same
others-one (e ∷ es) [] he hf same = cc same
others-one (e ∷ es) (f ∷ fs) he hf same =
    let first = eclass_one e f (others es) (others fs) (All-head IsEclass e es he) (All-head IsEclass f fs hf)
    (sym (record-first e es) ∙ ap (drop 1) same ∙ record-first f fs) in
    let x : e ≡ f = first.0 in
    let xs : es ≡ fs = others-one es fs (All-tail IsEclass e es he) (All-tail IsEclass f fs hf) first.1 in
    let all : e ∷ es ≡ f ∷ fs = cc in
    all

-- two records of some eclasses each
pub record_one : (e : Pair) (es : List Pair) (f : Pair) (fs : List Pair) → All IsEclass (e ∷ es) → All IsEclass (f ∷ fs)
    → record_text (e ∷ es) ≡ record_text (f ∷ fs) → e ∷ es ≡ f ∷ fs
record_one e es f fs he hf same = others-one (e ∷ es) (f ∷ fs) he hf (ap (λ t. 9 ∷ t) same)

-- a record holds no newline
pub record-lacks : (es : List Pair) → All IsEclass es → Lacks 10 (record_text es)
record-lacks [] h = All-nil (λ b. differs 10 b ≡ true)
record-lacks (e ∷ es) h =
    subst (Lacks 10) (sym (record-first e es))
    (All-append (λ b. differs 10 b ≡ true) (eclass_text e) (after_eclass (others es))
    (All-append (λ b. differs 10 b ≡ true) e.0 (9 ∷ digest_text e.1) (name-lacks 10 e.0 (omega arith) (All-head IsEclass e es h).name.bytes)
    (All-cons (λ b. differs 10 b ≡ true) 9 (digest_text e.1) refl (digest-lacks 10 e.1 (omega arith) (All-head IsEclass e es h).digest)))
    (rest es (All-tail IsEclass e es h) (record-lacks es (All-tail IsEclass e es h))))
  where
    rest : (es : List Pair) → All IsEclass es → Lacks 10 (record_text es) → Lacks 10 (after_eclass (others es))
    rest [] h k = All-nil (λ b. differs 10 b ≡ true)
    rest (f ∷ fs) h k = All-cons (λ b. differs 10 b ≡ true) 9 (record_text (f ∷ fs)) refl k

-- ---- a record that was read up to a place

abbrev begun : List Pair → Text
begun es = flat_map (λ e. eclass_text e ++ 9 ∷ []) es

begun-first : (e : Pair) (es : List Pair) (x : Text) → begun (e ∷ es) ++ x ≡ eclass_text e ++ (9 ∷ (begun es ++ x))
begun-first e es x =
    append_assoc (eclass_text e ++ 9 ∷ []) (begun es) x ∙ append_assoc (eclass_text e) (9 ∷ []) (begun es ++ x)

-- one more eclass
pub record_with-more : (es : List Pair) (e : Pair) (x : Option Text)
    → record_with es (Some (eclass_text e ++ after_eclass x)) ≡ record_with (es ++ e ∷ []) x
record_with-more [] e None = append-nil (eclass_text e)
record_with-more [] e (Some x) = simp append_assoc
record_with-more (d ∷ es) e None =
    begun-first d es (eclass_text e ++ []) ∙ ap (λ t. eclass_text d ++ (9 ∷ t)) (record_with-more es e None)
    ∙ sym (record-first d (es ++ e ∷ []) ∙ ap (λ o. eclass_text d ++ after_eclass o) (pushed es))
  where
    pushed : (es : List Pair) → others (es ++ e ∷ []) ≡ Some (record_text (es ++ e ∷ []))
    pushed [] = refl
    pushed (f ∷ fs) = refl
record_with-more (d ∷ es) e (Some x) =
    begun-first d es (eclass_text e ++ (9 ∷ x)) ∙ ap (λ t. eclass_text d ++ (9 ∷ t)) (record_with-more es e (Some x))
    ∙ sym (begun-first d (es ++ e ∷ []) x)

-- where no eclass comes next, the whole is no record
pub begun-none : (es : List Pair) (x : Text) (f : Pair) (fs : List Pair) → All IsEclass es → All IsEclass (f ∷ fs)
    → ((e : Pair) (rest : Option Text) → IsEclass e → x ≢ eclass_text e ++ after_eclass rest)
    → record_with es (Some x) ≢ record_text (f ∷ fs)
begun-none [] x f fs he hf none same = none f (others fs) (All-head IsEclass f fs hf) (same ∙ record-first f fs)
begun-none (e ∷ es) x f fs he hf none same =
    let first = eclass_one e f (Some (begun es ++ x)) (others fs) (All-head IsEclass e es he) (All-head IsEclass f fs hf)
    (sym (begun-first e es x) ∙ same ∙ record-first f fs) in
    next fs (All-tail IsEclass f fs hf) (λ g gs. begun-none es x g gs (All-tail IsEclass e es he)) first.1
  where
    next : (fs : List Pair) → All IsEclass fs
        → ((g : Pair) (gs : List Pair) → All IsEclass (g ∷ gs)
        → ((e : Pair) (rest : Option Text) → IsEclass e → x ≢ eclass_text e ++ after_eclass rest)
        → record_with es (Some x) ≢ record_text (g ∷ gs))
        → 9 ∷ (begun es ++ x) ≡ after_eclass (others fs) → ⊥
    next [] h more same = cc same
    next (g ∷ gs) h more same = more g gs h none (ap (drop 1) same)
