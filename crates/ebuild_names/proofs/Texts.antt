-- Where a version's revision begins, and where a package's name ends.
use Rattle.std.proofs.Common.{◌≡◌, ℕ, Bool, true, false, ◌&&◌, ◌||◌, ◌==◌, List, [], ◌∷◌, ◌++◌, map, Option, Some, None, refl, ap, sym, ◌∙◌, append_assoc}
use Rattle.std.specs.List.{list_all}
use Rattle.std.proofs.lemmas.List.{append-nil}
use Rattle.std.proofs.lemmas.List.Folds.{list_all-append}
use Rattle.eb_bytes.specs.Text.{Text, has_bytes}
use Rattle.byte_class.specs.Class.{is_digit, is_lower}
use Rattle.version_funcs.specs.Byte.{is_no}
use Rattle.version_funcs.specs.Version.{Version, IsWellFormed, is_none_or, is_number, marked, spelled_letter, spelled_suffix, spelled_revision, spelling}
use Rattle.version_funcs.proofs.Marks.{Cut, stops, take_while-cut, after_while-cut, first_true, rest_true, both_true}
use Rattle.version_funcs.proofs.Spelled.{components_are, digit_is_no, list_all-larger, lower_is_no, suffixes_are}
use Rattle.version_funcs.proofs.Unambiguous.{unambiguous}
use Rattle.ebuild_names.specs.Form.{begins}
use Rattle.ebuild_names.specs.Path.{names_of, revision_name, with_version, without_revision}
use Rattle.ebuild_names.specs.Walk.{before_hyphen, after_hyphen, from_hyphen, texts_of}

-- ---- a version without its revision has no hyphen

all_joined : (p : ℕ → Bool) (s t : Text) → list_all p s ≡ true → list_all p t ≡ true → list_all p (s ++ t) ≡ true
all_joined p s t a b = list_all-append p s t ∙ both_true (list_all p s) (list_all p t) a b

all_marked : (p : ℕ → Bool) (mark : ℕ) (parts : List Text) → p mark ≡ true → list_all (list_all p) parts ≡ true → list_all p (marked mark parts) ≡ true
all_marked p mark [] here all = refl
all_marked p mark (part ∷ parts) here all =
    both_true (p mark) (list_all p (part ++ marked mark parts)) here
    (all_joined p part (marked mark parts) (first_true (list_all p part) (list_all (list_all p) parts) all)
    (all_marked p mark parts here (rest_true (list_all p part) (list_all (list_all p) parts) all)))

letter_has_none : (letter : Option ℕ) → is_none_or is_lower letter ≡ true → list_all (is_no 45) (spelled_letter letter) ≡ true
letter_has_none None small = refl
letter_has_none (Some b) small = both_true (is_no 45 b) true (lower_is_no 45 refl b small) refl

digits_have_none : (t : Text) → list_all is_digit t ≡ true → list_all (is_no 45) t ≡ true
digits_have_none = list_all-larger is_digit (is_no 45) (digit_is_no 45 refl)

plain_has_none : (v : Version) → IsWellFormed v → list_all (is_no 45) (spelling (without_revision v)) ≡ true
plain_has_none v well =
    let suffixes : list_all (is_no 45) (marked 95 (map spelled_suffix v.suffixes) ++ []) ≡ true =
    all_joined (is_no 45) (marked 95 (map spelled_suffix v.suffixes)) []
    (all_marked (is_no 45) 95 (map spelled_suffix v.suffixes) refl (suffixes_are (is_no 45) (lower_is_no 45 refl) (digit_is_no 45 refl) v.suffixes well.suffixes_are)) refl in
    let later : list_all (is_no 45) (marked 46 v.later) ≡ true =
    all_marked (is_no 45) 46 v.later refl (components_are (is_no 45) (digit_is_no 45 refl) v.later well.later_are) in
    all_joined (is_no 45) v.first _ (digits_have_none v.first (rest_true (has_bytes v.first) (list_all is_digit v.first) well.first_is))
    (all_joined (is_no 45) (marked 46 v.later) _ later
    (all_joined (is_no 45) (spelled_letter v.letter) _ (letter_has_none v.letter well.letter_is) suffixes))

-- ---- the version without its revision, and the revision

five_parts : (a b c d e : Text) → a ++ (b ++ (c ++ (d ++ e))) ≡ (a ++ (b ++ (c ++ (d ++ [])))) ++ e
five_parts a b c d e = simp (append_assoc, append-nil) refl

stops-revision : (revision : Option Text) → stops (is_no 45) (spelled_revision revision) ≡ true
stops-revision None = refl
stops-revision (Some digits) = refl

pub revision_cut : (v : Version) → IsWellFormed v → Cut (is_no 45) (spelling v) (spelling (without_revision v)) (spelled_revision v.revision)
revision_cut v well = record {
  whole = five_parts v.first (marked 46 v.later) (spelled_letter v.letter) (marked 95 (map spelled_suffix v.suffixes)) (spelled_revision v.revision);
  run = plain_has_none v well;
  stop = stops-revision v.revision;
}

after_hyphen-spelled : (revision : Option Text) → after_hyphen (spelled_revision revision) ≡ revision_name revision
after_hyphen-spelled None = refl
after_hyphen-spelled (Some digits) = refl

-- the texts that the code makes are those of the version
pub texts_of-spelling : (category pn : Text) (v : Version) → IsWellFormed v → texts_of category pn (spelling v) ≡ names_of category pn v
texts_of-spelling category pn v well =
    let plain : before_hyphen (spelling v) ≡ spelling (without_revision v) = take_while-cut (is_no 45) (spelling v) (spelling (without_revision v)) (spelled_revision v.revision) (revision_cut v well) in
    let revision : after_hyphen (from_hyphen (spelling v)) ≡ revision_name v.revision =
    ap after_hyphen (after_while-cut (is_no 45) (spelling v) (spelling (without_revision v)) (spelled_revision v.revision) (revision_cut v well)) ∙ after_hyphen-spelled v.revision in
    λ i. record {
      category = category;
      pn = pn;
      pv = plain i;
      pr = revision i;
      p = with_version pn (plain i);
      pvr = spelling v;
      pf = with_version pn (spelling v);
    }

-- ---- no version stands after a hyphen of a version

-- whether a digit stands after some hyphen
abbrev digit_after_hyphen : Text → Bool
digit_after_hyphen [] = false
digit_after_hyphen (b ∷ t) = b == 45 && begins is_digit t || digit_after_hyphen t

after_run : (s t : Text) → list_all (is_no 45) s ≡ true → digit_after_hyphen (s ++ t) ≡ digit_after_hyphen t
after_run [] t none = refl
after_run (b ∷ s) t none = on (b == 45) refl none (after_run s t)
  where
    on : (v : Bool) → (b == 45) ≡ v → list_all (is_no 45) (b ∷ s) ≡ true → (list_all (is_no 45) s ≡ true → digit_after_hyphen (s ++ t) ≡ digit_after_hyphen t) → digit_after_hyphen (b ∷ (s ++ t)) ≡ digit_after_hyphen t
    on true e none rest = let never : false ≡ true = rw e at (first_true (is_no 45 b) (list_all (is_no 45) s) none) in absurd (cc)
    on false e none rest = ap (λ (v : Bool). v && begins is_digit (s ++ t) || digit_after_hyphen (s ++ t)) e ∙ rest (rest_true (is_no 45 b) (list_all (is_no 45) s) none)

revision_has_none : (revision : Option Text) → is_none_or is_number revision ≡ true → digit_after_hyphen (spelled_revision revision) ≡ false
revision_has_none None well = refl
revision_has_none (Some digits) well =
    ap digit_after_hyphen (sym (append-nil digits)) ∙ after_run digits [] (digits_have_none digits (rest_true (has_bytes digits) (list_all is_digit digits) well))

version_has_none : (v : Version) → IsWellFormed v → digit_after_hyphen (spelling v) ≡ false
version_has_none v well =
    ap digit_after_hyphen (revision_cut v well).whole ∙ after_run (spelling (without_revision v)) (spelled_revision v.revision) (plain_has_none v well) ∙ revision_has_none v.revision well.revision_is

begins_with_digit : (first rest : Text) → is_number first ≡ true → begins is_digit (first ++ rest) ≡ true
begins_with_digit [] rest well = absurd (cc)
begins_with_digit (b ∷ first) rest well = first_true (is_digit b) (list_all is_digit first) (rest_true true (list_all is_digit (b ∷ first)) well)

or_true : (v : Bool) → (v || true) ≡ true
or_true true = refl
or_true false = refl

there_is_one : (front t : Text) → begins is_digit t ≡ true → digit_after_hyphen (front ++ 45 ∷ t) ≡ true
there_is_one [] t digit = ap (λ (v : Bool). v || digit_after_hyphen t) digit
there_is_one (b ∷ front) t digit =
    ap (λ (v : Bool). b == 45 && begins is_digit (front ++ 45 ∷ t) || v) (there_is_one front t digit) ∙ or_true (b == 45 && begins is_digit (front ++ 45 ∷ t))

no_version_within : (front : Text) (v w : Version) → IsWellFormed v → IsWellFormed w → spelling v ≡ front ++ 45 ∷ spelling w → ⊥
no_version_within front v w well_v well_w e =
    let one : digit_after_hyphen (front ++ 45 ∷ spelling w) ≡ true = there_is_one front (spelling w) (begins_with_digit w.first _ well_w.first_is) in
    let none : digit_after_hyphen (spelling v) ≡ false = version_has_none v well_v in
    let never : true ≡ false = sym one ∙ ap digit_after_hyphen (sym e) ∙ none in
    absurd (cc)

-- PF says where PN ends
pub one_cut : (pn qn : Text) (v w : Version) → IsWellFormed v → IsWellFormed w → with_version pn (spelling v) ≡ with_version qn (spelling w) → (pn ≡ qn) × (v ≡ w)
one_cut [] [] v w well_v well_w e = let same : spelling v ≡ spelling w = cc in (refl, unambiguous v w well_v well_w same)
one_cut [] (q ∷ qn) v w well_v well_w e = let within : spelling v ≡ qn ++ 45 ∷ spelling w = cc in absurd (no_version_within qn v w well_v well_w within)
one_cut (p ∷ pn) [] v w well_v well_w e = let within : spelling w ≡ pn ++ 45 ∷ spelling v = cc in absurd (no_version_within pn w v well_w well_v within)
one_cut (p ∷ pn) (q ∷ qn) v w well_v well_w e =
    let first : p ≡ q = cc in
    let others : with_version pn (spelling v) ≡ with_version qn (spelling w) = cc in
    let rest = one_cut pn qn v w well_v well_w others in
    (ap (λ (b : ℕ). b ∷ pn) first ∙ ap (λ (s : Text). q ∷ s) rest.0, rest.1)
