-- What the parts of a version's spelling are.
use Rattle.std.proofs.Common.{◌≡◌, ℕ, Bool, true, false, not, ◌&&◌, ◌||◌, ◌==◌, nat_le, cond, List, [], ◌∷◌, ◌++◌, map, Option, Some, None, refl, ap, ◌∙◌, ◌≤◌, arith}
use Rattle.std.specs.List.{list_all, take_while}
use Rattle.std.proofs.lemmas.Bool.{eqb-true, leb-true}
use Rattle.std.proofs.lemmas.List.Folds.{list_all-append}
use Rattle.eb_bytes.specs.Text.{Text, has_bytes}
use Rattle.version_funcs.specs.declared.kind.SuffixKind.{SuffixKind}
use Rattle.version_funcs.specs.declared.kind.SuffixKind.TheVariants.{Alpha, Beta, Pre, Candidate, Patch}
use Rattle.byte_class.specs.Class.{is_digit, is_lower}
use Rattle.version_funcs.specs.Byte.{after_while, is_digit_or_dot, is_no}
use Rattle.version_funcs.specs.Version.{Suffix, Version, IsWellFormed, is_number, is_none_or, is_suffix, kind_name, marked, spelled_letter, spelled_suffix, spelled_revision, spelling}
use Rattle.version_funcs.specs.Walk.{letter_of, after_letter, after_components, first_text, later_text, suffixes_text, revision_text}
use Rattle.version_funcs.proofs.Marks.{Cut, stops, take_while-cut, after_while-cut, first_true, rest_true, both_true}

-- ---- bytes of two classes

true_not_false : (v : Bool) → v ≡ true → v ≡ false → ⊥
true_not_false v within outside = cc

-- a byte of a class is none outside of it
other_byte : (p : ℕ → Bool) (a b : ℕ) → p a ≡ false → p b ≡ true → (b == a) ≡ false
other_byte p a b outside within = on (b == a) refl
  where
    on : (v : Bool) → (b == a) ≡ v → (b == a) ≡ false
    on true e = let same : b ≡ a = eqb-true b a e in absurd (true_not_false (p b) within (ap p same ∙ outside))
    on false e = e

pub digit_is_no : (mark : ℕ) → is_digit mark ≡ false → (b : ℕ) → is_digit b ≡ true → is_no mark b ≡ true
digit_is_no mark outside b within = ap not (other_byte is_digit mark b outside within)

neither : (v w : Bool) → v ≡ false → w ≡ false → (v || w) ≡ false
neither v w a b = rw (a, b) refl

and_false : (v : Bool) → (v && false) ≡ false
and_false true = refl
and_false false = refl

high_no_digit : (b : ℕ) → 97 ≤ b → is_digit b ≡ false
high_no_digit b low = on (nat_le b 57) refl
  where
    on : (v : Bool) → nat_le b 57 ≡ v → (nat_le 48 b && nat_le b 57) ≡ false
    on true e = absurd (let below : b ≤ 57 = leb-true b 57 e in omega arith)
    on false e = ap (λ (v : Bool). nat_le 48 b && v) e ∙ and_false (nat_le 48 b)

small_no_digit : (b : ℕ) → is_lower b ≡ true → is_digit b ≡ false
small_no_digit b h = high_no_digit b (leb-true 97 b (first_true (nat_le 97 b) (nat_le b 122) h))

small_no_digit_or_dot : (b : ℕ) → is_lower b ≡ true → is_digit_or_dot b ≡ false
small_no_digit_or_dot b h = neither (is_digit b) (b == 46) (small_no_digit b h) (other_byte is_lower 46 b refl h)

pub digit_no_lower : (b : ℕ) → is_digit b ≡ true → is_lower b ≡ false
digit_no_lower b h = on (is_lower b) refl
  where
    on : (v : Bool) → is_lower b ≡ v → is_lower b ≡ false
    on true e = absurd (true_not_false (is_digit b) h (small_no_digit b e))
    on false e = e

digit_or_dot : (b : ℕ) → is_digit b ≡ true → is_digit_or_dot b ≡ true
digit_or_dot b h = rw h refl

-- a text of one class is one of a larger class
pub list_all-larger : (p q : ℕ → Bool) → ((b : ℕ) → p b ≡ true → q b ≡ true) → (t : Text) → list_all p t ≡ true → list_all q t ≡ true
list_all-larger p q larger [] all = refl
list_all-larger p q larger (b ∷ t) all = both_true (q b) (list_all q t) (larger b (first_true (p b) (list_all p t) all)) (list_all-larger p q larger t (rest_true (p b) (list_all p t) all))

-- ---- texts of parts

list_all-joined : (p : ℕ → Bool) (s t : Text) → list_all p s ≡ true → list_all p t ≡ true → list_all p (s ++ t) ≡ true
list_all-joined p s t a b = list_all-append p s t ∙ both_true (list_all p s) (list_all p t) a b

list_all-marked : (p : ℕ → Bool) (mark : ℕ) (parts : List Text) → p mark ≡ true → list_all (list_all p) parts ≡ true → list_all p (marked mark parts) ≡ true
list_all-marked p mark [] here all = refl
list_all-marked p mark (part ∷ parts) here all =
    both_true (p mark) (list_all p (part ++ marked mark parts)) here
    (list_all-joined p part (marked mark parts) (first_true (list_all p part) (list_all (list_all p) parts) all)
    (list_all-marked p mark parts here (rest_true (list_all p part) (list_all (list_all p) parts) all)))

-- components of digits only
pub components_are : (p : ℕ → Bool) → ((b : ℕ) → is_digit b ≡ true → p b ≡ true) → (parts : List Text) → list_all is_number parts ≡ true → list_all (list_all p) parts ≡ true
components_are p larger [] all = refl
components_are p larger (part ∷ parts) all =
    both_true (list_all p part) (list_all (list_all p) parts)
    (list_all-larger is_digit p larger part (rest_true (has_bytes part) (list_all is_digit part) (first_true (is_number part) (list_all is_number parts) all)))
    (components_are p larger parts (rest_true (is_number part) (list_all is_number parts) all))

-- suffixes of lower-case letters and digits only
name_is : (p : ℕ → Bool) → ((b : ℕ) → is_lower b ≡ true → p b ≡ true) → (kind : SuffixKind) → list_all p (kind_name kind) ≡ true
name_is p larger Alpha = list_all-larger is_lower p larger (kind_name Alpha) refl
name_is p larger Beta = list_all-larger is_lower p larger (kind_name Beta) refl
name_is p larger Pre = list_all-larger is_lower p larger (kind_name Pre) refl
name_is p larger Candidate = list_all-larger is_lower p larger (kind_name Candidate) refl
name_is p larger Patch = list_all-larger is_lower p larger (kind_name Patch) refl

pub suffixes_are : (p : ℕ → Bool) → ((b : ℕ) → is_lower b ≡ true → p b ≡ true) → ((b : ℕ) → is_digit b ≡ true → p b ≡ true) → (ss : List Suffix) → list_all is_suffix ss ≡ true → list_all (list_all p) (map spelled_suffix ss) ≡ true
suffixes_are p small digit [] all = refl
suffixes_are p small digit (s ∷ ss) all =
    both_true (list_all p (spelled_suffix s)) (list_all (list_all p) (map spelled_suffix ss))
    (list_all-joined p (kind_name s.kind) s.number (name_is p small s.kind) (list_all-larger is_digit p digit s.number (first_true (is_suffix s) (list_all is_suffix ss) all)))
    (suffixes_are p small digit ss (rest_true (is_suffix s) (list_all is_suffix ss) all))

pub lower_is_no : (mark : ℕ) → is_lower mark ≡ false → (b : ℕ) → is_lower b ≡ true → is_no mark b ≡ true
lower_is_no mark outside b within = ap not (other_byte is_lower mark b outside within)

-- ---- where each part ends

stops-revision : (p : ℕ → Bool) → p 45 ≡ false → (revision : Option Text) → stops p (spelled_revision revision) ≡ true
stops-revision p hyphen None = refl
stops-revision p hyphen (Some digits) = ap not hyphen

stops-suffixes : (p : ℕ → Bool) → p 95 ≡ false → (parts : List Text) (after : Text) → stops p after ≡ true → stops p (marked 95 parts ++ after) ≡ true
stops-suffixes p underscore [] after stop = stop
stops-suffixes p underscore (part ∷ parts) after stop = ap not underscore

stops-letter : (p : ℕ → Bool) → ((b : ℕ) → is_lower b ≡ true → p b ≡ false) → (letter : Option ℕ) (after : Text) → is_none_or is_lower letter ≡ true → stops p after ≡ true → stops p (spelled_letter letter ++ after) ≡ true
stops-letter p apart None after small stop = stop
stops-letter p apart (Some b) after small stop = ap not (apart b small)

stops-later : (parts : List Text) (after : Text) → stops is_digit after ≡ true → stops is_digit (marked 46 parts ++ after) ≡ true
stops-later [] after stop = stop
stops-later (part ∷ parts) after stop = refl

-- ---- the letter

not_true : (v : Bool) → not v ≡ true → v ≡ false
not_true true h = absurd (cc)
not_true false h = refl

letter_of-none : (t : Text) → stops is_lower t ≡ true → letter_of t ≡ None
letter_of-none [] stop = refl
letter_of-none (b ∷ t) stop = ap (λ (v : Bool). cond v (Some b) None) (not_true (is_lower b) stop)

after_letter-none : (t : Text) → stops is_lower t ≡ true → after_letter t ≡ t
after_letter-none [] stop = refl
after_letter-none (b ∷ t) stop = ap (λ (v : Bool). cond v t (b ∷ t)) (not_true (is_lower b) stop)

letter_of-spelled : (letter : Option ℕ) (after : Text) → is_none_or is_lower letter ≡ true → stops is_lower after ≡ true → letter_of (spelled_letter letter ++ after) ≡ letter
letter_of-spelled None after small stop = letter_of-none after stop
letter_of-spelled (Some b) after small stop = ap (λ (v : Bool). cond v (Some b) None) small

after_letter-spelled : (letter : Option ℕ) (after : Text) → is_none_or is_lower letter ≡ true → stops is_lower after ≡ true → after_letter (spelled_letter letter ++ after) ≡ after
after_letter-spelled None after small stop = after_letter-none after stop
after_letter-spelled (Some b) after small stop = ap (λ (v : Bool). cond v after (b ∷ after)) small

-- ---- all parts

pub record PartsAre (t : Text) (v : Version) : Type 0 where
  pub first : first_text t ≡ v.first
  pub later : later_text t ≡ marked 46 v.later
  pub letter : letter_of (after_components t) ≡ v.letter
  pub suffixes : suffixes_text t ≡ marked 95 (map spelled_suffix v.suffixes)
  pub revision : revision_text t ≡ spelled_revision v.revision

-- what stands after the letter, after the components, and after the first component
abbrev from_suffixes : Version → Text
from_suffixes v = marked 95 (map spelled_suffix v.suffixes) ++ spelled_revision v.revision

abbrev from_letter : Version → Text
from_letter v = spelled_letter v.letter ++ from_suffixes v

abbrev from_later : Version → Text
from_later v = marked 46 v.later ++ from_letter v

stops-from_suffixes : (p : ℕ → Bool) → p 95 ≡ false → p 45 ≡ false → (v : Version) → stops p (from_suffixes v) ≡ true
stops-from_suffixes p underscore hyphen v = stops-suffixes p underscore (map spelled_suffix v.suffixes) (spelled_revision v.revision) (stops-revision p hyphen v.revision)

first_cut : (v : Version) → IsWellFormed v → Cut is_digit (spelling v) v.first (from_later v)
first_cut v well = record {
  whole = refl;
  run = rest_true (has_bytes v.first) (list_all is_digit v.first) well.first_is;
  stop = stops-later v.later (from_letter v) (stops-letter is_digit small_no_digit v.letter (from_suffixes v) well.letter_is (stops-from_suffixes is_digit refl refl v));
}

later_cut : (v : Version) → IsWellFormed v → Cut is_digit_or_dot (from_later v) (marked 46 v.later) (from_letter v)
later_cut v well = record {
  whole = refl;
  run = list_all-marked is_digit_or_dot 46 v.later refl (components_are is_digit_or_dot digit_or_dot v.later well.later_are);
  stop = stops-letter is_digit_or_dot small_no_digit_or_dot v.letter (from_suffixes v) well.letter_is (stops-from_suffixes is_digit_or_dot refl refl v);
}

suffixes_cut : (v : Version) → IsWellFormed v → Cut (is_no 45) (from_suffixes v) (marked 95 (map spelled_suffix v.suffixes)) (spelled_revision v.revision)
suffixes_cut v well = record {
  whole = refl;
  run = list_all-marked (is_no 45) 95 (map spelled_suffix v.suffixes) refl (suffixes_are (is_no 45) (lower_is_no 45 refl) (digit_is_no 45 refl) v.suffixes well.suffixes_are);
  stop = stops-revision (is_no 45) refl v.revision;
}

pub parts_are : (v : Version) → IsWellFormed v → PartsAre (spelling v) v
parts_are v well =
    let later : after_while is_digit (spelling v) ≡ from_later v = after_while-cut is_digit (spelling v) v.first (from_later v) (first_cut v well) in
    let letter : after_components (spelling v) ≡ from_letter v = ap (after_while is_digit_or_dot) later ∙ after_while-cut is_digit_or_dot (from_later v) (marked 46 v.later) (from_letter v) (later_cut v well) in
    let apart : stops is_lower (from_suffixes v) ≡ true = stops-from_suffixes is_lower refl refl v in
    let suffixes : after_letter (after_components (spelling v)) ≡ from_suffixes v = ap after_letter letter ∙ after_letter-spelled v.letter (from_suffixes v) well.letter_is apart in
    record {
      first = take_while-cut is_digit (spelling v) v.first (from_later v) (first_cut v well);
      later = ap (take_while is_digit_or_dot) later ∙ take_while-cut is_digit_or_dot (from_later v) (marked 46 v.later) (from_letter v) (later_cut v well);
      letter = ap letter_of letter ∙ letter_of-spelled v.letter (from_suffixes v) well.letter_is apart;
      suffixes = ap (take_while (is_no 45)) suffixes ∙ take_while-cut (is_no 45) (from_suffixes v) (marked 95 (map spelled_suffix v.suffixes)) (spelled_revision v.revision) (suffixes_cut v well);
      revision = ap (after_while (is_no 45)) suffixes ∙ after_while-cut (is_no 45) (from_suffixes v) (marked 95 (map spelled_suffix v.suffixes)) (spelled_revision v.revision) (suffixes_cut v well);
    }
