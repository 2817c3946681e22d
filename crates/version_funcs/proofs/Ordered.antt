-- The parts of two versions compared as they stand, and the order of the versions.
use Rattle.std.proofs.Common.{◌≡◌, true, ◌||◌, cond, List, [], ◌∷◌, map, drop, Option, Some, None, refl, ap, ◌∙◌}
use Rattle.std.specs.declared.cmp.Ordering.{Ordering}
use Rattle.std.specs.declared.cmp.Ordering.TheVariants.{Less, Equal, Greater}
use Rattle.std.specs.List.{list_all}
use Rattle.std.specs.Option.{option_cmp}
use Rattle.std.specs.Ordering.{nat_cmp, ordering_then, ordering_reverse}
use Rattle.std.specs.Cmp.Lexicographic.{slice_cmp}
use Rattle.eb_bytes.specs.Text.{Text, has_bytes}
use Rattle.byte_class.specs.Class.{is_digit}
use Rattle.version_funcs.specs.Version.{Suffix, Version, IsWellFormed, is_number, is_none_or, is_suffix, kind_rank, spelled_suffix, spelled_revision}
use Rattle.version_funcs.specs.Walk.{after_marks, suffix_of, first_text, later_text, letter_of, after_components, suffixes_text, revision_text}
use Rattle.version_funcs.specs.Number.{number_order}
use Rattle.version_funcs.specs.Order.{begins_with_zero, without_last_zeros, component_order, suffix_order, suffixes_order, longer_order, revision_digits, version_order}
use Rattle.version_funcs.specs.Compared.{digits_order, component_text_order, read_suffix_order, read_longer_order, suffix_text_order, suffix_texts_order, longer_text_order}
use Rattle.version_funcs.proofs.Marks.{first_true, rest_true}
use Rattle.version_funcs.proofs.Numbers.{digits_order-number}
use Rattle.version_funcs.proofs.Spelled.{PartsAre}
use Rattle.version_funcs.proofs.Reading.{suffix_of-spelled, components-after_marks, suffixes-after_marks}

-- ---- components

digits_of : (t : Text) → is_number t ≡ true → list_all is_digit t ≡ true
digits_of t h = rest_true (has_bytes t) (list_all is_digit t) h

component_text_order-value : (a b : Text) → is_number a ≡ true → is_number b ≡ true → component_text_order a b ≡ component_order a b
component_text_order-value a b number_a number_b = ap (λ (o : Ordering). cond (begins_with_zero a || begins_with_zero b) (slice_cmp nat_cmp (without_last_zeros a) (without_last_zeros b)) o) (digits_order-number a b (digits_of a number_a) (digits_of b number_b))

components_order-value : (xs ys : List Text) → list_all is_number xs ≡ true → list_all is_number ys ≡ true → slice_cmp component_text_order xs ys ≡ slice_cmp component_order xs ys
components_order-value [] [] all_x all_y = refl
components_order-value [] (y ∷ ys) all_x all_y = refl
components_order-value (x ∷ xs) [] all_x all_y = refl
components_order-value (x ∷ xs) (y ∷ ys) all_x all_y =
    ap (λ (o : Ordering). ordering_then o (slice_cmp component_text_order xs ys)) (component_text_order-value x y (first_true (is_number x) (list_all is_number xs) all_x) (first_true (is_number y) (list_all is_number ys) all_y))
    ∙ ap (ordering_then (component_order x y)) (components_order-value xs ys (rest_true (is_number x) (list_all is_number xs) all_x) (rest_true (is_number y) (list_all is_number ys) all_y))

-- ---- suffixes

suffix_text_order-value : (s r : Suffix) → is_suffix s ≡ true → is_suffix r ≡ true → suffix_text_order (spelled_suffix s) (spelled_suffix r) ≡ suffix_order s r
suffix_text_order-value s r digits_s digits_r =
    ap (λ (o : Option Suffix). read_suffix_order o (suffix_of (spelled_suffix r))) (suffix_of-spelled s digits_s)
    ∙ ap (read_suffix_order (Some s)) (suffix_of-spelled r digits_r)
    ∙ ap (ordering_then (nat_cmp (kind_rank s.kind) (kind_rank r.kind))) (digits_order-number s.number r.number digits_s digits_r)

longer_text_order-value : (s : Suffix) → is_suffix s ≡ true → longer_text_order (spelled_suffix s) ≡ longer_order s.kind
longer_text_order-value s digits = ap read_longer_order (suffix_of-spelled s digits)

suffixes_order-value : (ss rs : List Suffix) → list_all is_suffix ss ≡ true → list_all is_suffix rs ≡ true → suffix_texts_order (map spelled_suffix ss) (map spelled_suffix rs) ≡ suffixes_order ss rs
suffixes_order-value [] [] all_s all_r = refl
suffixes_order-value [] (r ∷ rs) all_s all_r = ap ordering_reverse (longer_text_order-value r (first_true (is_suffix r) (list_all is_suffix rs) all_r))
suffixes_order-value (s ∷ ss) [] all_s all_r = longer_text_order-value s (first_true (is_suffix s) (list_all is_suffix ss) all_s)
suffixes_order-value (s ∷ ss) (r ∷ rs) all_s all_r =
    ap (λ (o : Ordering). ordering_then o (suffix_texts_order (map spelled_suffix ss) (map spelled_suffix rs))) (suffix_text_order-value s r (first_true (is_suffix s) (list_all is_suffix ss) all_s) (first_true (is_suffix r) (list_all is_suffix rs) all_r))
    ∙ ap (ordering_then (suffix_order s r)) (suffixes_order-value ss rs (rest_true (is_suffix s) (list_all is_suffix ss) all_s) (rest_true (is_suffix r) (list_all is_suffix rs) all_r))

-- ---- revisions

drop-revision : (revision : Option Text) → drop 2 (spelled_revision revision) ≡ revision_digits revision
drop-revision None = refl
drop-revision (Some digits) = refl

revision_is_digits : (revision : Option Text) → is_none_or is_number revision ≡ true → list_all is_digit (revision_digits revision) ≡ true
revision_is_digits None h = refl
revision_is_digits (Some digits) h = digits_of digits h

-- ---- versions

-- five orders one after the other, from the left and from the right
then_chain : (a b c d e : Ordering) → ordering_then (ordering_then (ordering_then (ordering_then a b) c) d) e ≡ ordering_then a (ordering_then b (ordering_then c (ordering_then d e)))
then_chain Less b c d e = refl
then_chain Equal Less c d e = refl
then_chain Equal Equal Less d e = refl
then_chain Equal Equal Equal d e = refl
then_chain Equal Equal Greater d e = refl
then_chain Equal Greater c d e = refl
then_chain Greater b c d e = refl

-- how the parts of two texts are compared
abbrev pub parts_order : Text → Text → Ordering
parts_order s t =
    ordering_then (ordering_then (ordering_then (ordering_then
    (digits_order (first_text s) (first_text t))
    (slice_cmp component_text_order (after_marks 46 (later_text s)) (after_marks 46 (later_text t))))
    (option_cmp nat_cmp (letter_of (after_components s)) (letter_of (after_components t))))
    (suffix_texts_order (after_marks 95 (suffixes_text s)) (after_marks 95 (suffixes_text t))))
    (digits_order (drop 2 (revision_text s)) (drop 2 (revision_text t)))

both : {A B C : Type 0} (f : A → B → C) {a c : A} {b d : B} → a ≡ c → b ≡ d → f a b ≡ f c d
both f {c = c} {b = b} p q = ap (λ x. f x b) p ∙ ap (f c) q

pub parts_order-value : (s t : Text) (v w : Version) → IsWellFormed v → IsWellFormed w → PartsAre s v → PartsAre t w → parts_order s t ≡ version_order v w
parts_order-value s t v w well_v well_w parts_s parts_t =
    let first : digits_order (first_text s) (first_text t) ≡ number_order v.first w.first = both digits_order parts_s.first parts_t.first ∙ digits_order-number v.first w.first (digits_of v.first well_v.first_is) (digits_of w.first well_w.first_is) in
    let later : slice_cmp component_text_order (after_marks 46 (later_text s)) (after_marks 46 (later_text t)) ≡ slice_cmp component_order v.later w.later =
    both (slice_cmp component_text_order) (ap (after_marks 46) parts_s.later ∙ components-after_marks v.later well_v.later_are) (ap (after_marks 46) parts_t.later ∙ components-after_marks w.later well_w.later_are)
    ∙ components_order-value v.later w.later well_v.later_are well_w.later_are in
    let letter : option_cmp nat_cmp (letter_of (after_components s)) (letter_of (after_components t)) ≡ option_cmp nat_cmp v.letter w.letter = both (option_cmp nat_cmp) parts_s.letter parts_t.letter in
    let suffixes : suffix_texts_order (after_marks 95 (suffixes_text s)) (after_marks 95 (suffixes_text t)) ≡ suffixes_order v.suffixes w.suffixes =
    both suffix_texts_order (ap (after_marks 95) parts_s.suffixes ∙ suffixes-after_marks v.suffixes well_v.suffixes_are) (ap (after_marks 95) parts_t.suffixes ∙ suffixes-after_marks w.suffixes well_w.suffixes_are)
    ∙ suffixes_order-value v.suffixes w.suffixes well_v.suffixes_are well_w.suffixes_are in
    let revision : digits_order (drop 2 (revision_text s)) (drop 2 (revision_text t)) ≡ number_order (revision_digits v.revision) (revision_digits w.revision) =
    both digits_order (ap (drop 2) parts_s.revision ∙ drop-revision v.revision) (ap (drop 2) parts_t.revision ∙ drop-revision w.revision)
    ∙ digits_order-number (revision_digits v.revision) (revision_digits w.revision) (revision_is_digits v.revision well_v.revision_is) (revision_is_digits w.revision well_w.revision_is) in
    both ordering_then (both ordering_then (both ordering_then (both ordering_then first later) letter) suffixes) revision
    ∙ then_chain (number_order v.first w.first) (slice_cmp component_order v.later w.later) (option_cmp nat_cmp v.letter w.letter) (suffixes_order v.suffixes w.suffixes) (number_order (revision_digits v.revision) (revision_digits w.revision))
