-- A text spells one version at most.
use Rattle.std.proofs.Common.{◌≡◌, true, List, [], ◌∷◌, map, Option, Some, None, refl, ap, sym, subst, ◌∙◌}
use Rattle.std.specs.List.{list_all}
use Rattle.eb_bytes.specs.Text.{Text}
use Rattle.version_funcs.specs.Version.{Suffix, Version, IsWellFormed, is_suffix, spelled_suffix, spelled_revision, spelling}
use Rattle.version_funcs.specs.Walk.{after_marks, suffix_of}
use Rattle.version_funcs.specs.Laws.{IsUnambiguous}
use Rattle.version_funcs.proofs.Marks.{first_true, rest_true}
use Rattle.version_funcs.proofs.Spelled.{PartsAre, parts_are}
use Rattle.version_funcs.proofs.Reading.{suffix_of-spelled, components-after_marks, suffixes-after_marks}

same_suffix : (s r : Suffix) → is_suffix s ≡ true → is_suffix r ≡ true → spelled_suffix s ≡ spelled_suffix r → s ≡ r
same_suffix s r digits_s digits_r e =
    let found : Some s ≡ Some r = sym (suffix_of-spelled s digits_s) ∙ ap suffix_of e ∙ suffix_of-spelled r digits_r in
    cc

same_suffixes : (ss rs : List Suffix) → list_all is_suffix ss ≡ true → list_all is_suffix rs ≡ true → map spelled_suffix ss ≡ map spelled_suffix rs → ss ≡ rs
same_suffixes [] [] all_s all_r e = refl
same_suffixes [] (r ∷ rs) all_s all_r e = absurd (cc)
same_suffixes (s ∷ ss) [] all_s all_r e = absurd (cc)
same_suffixes (s ∷ ss) (r ∷ rs) all_s all_r e =
    let front : spelled_suffix s ≡ spelled_suffix r = cc in
    let back : map spelled_suffix ss ≡ map spelled_suffix rs = cc in
    ap (λ (x : Suffix). x ∷ ss) (same_suffix s r (first_true (is_suffix s) (list_all is_suffix ss) all_s) (first_true (is_suffix r) (list_all is_suffix rs) all_r) front)
    ∙ ap (λ (xs : List Suffix). r ∷ xs) (same_suffixes ss rs (rest_true (is_suffix s) (list_all is_suffix ss) all_s) (rest_true (is_suffix r) (list_all is_suffix rs) all_r) back)

same_revision : (a b : Option Text) → spelled_revision a ≡ spelled_revision b → a ≡ b
same_revision None None e = refl
same_revision None (Some b) e = absurd (cc)
same_revision (Some a) None e = absurd (cc)
same_revision (Some a) (Some b) e = let digits : a ≡ b = cc in ap (λ (t : Text). Some t) digits

same_parts : (t : Text) (v w : Version) → IsWellFormed v → IsWellFormed w → PartsAre t v → PartsAre t w → v ≡ w
same_parts t v w well_v well_w parts_v parts_w =
    let first : v.first ≡ w.first = sym parts_v.first ∙ parts_w.first in
    let later : v.later ≡ w.later = sym (components-after_marks v.later well_v.later_are) ∙ ap (after_marks 46) (sym parts_v.later ∙ parts_w.later) ∙ components-after_marks w.later well_w.later_are in
    let letter : v.letter ≡ w.letter = sym parts_v.letter ∙ parts_w.letter in
    let texts : map spelled_suffix v.suffixes ≡ map spelled_suffix w.suffixes = sym (suffixes-after_marks v.suffixes well_v.suffixes_are) ∙ ap (after_marks 95) (sym parts_v.suffixes ∙ parts_w.suffixes) ∙ suffixes-after_marks w.suffixes well_w.suffixes_are in
    let suffixes : v.suffixes ≡ w.suffixes = same_suffixes v.suffixes w.suffixes well_v.suffixes_are well_w.suffixes_are texts in
    let revision : v.revision ≡ w.revision = same_revision v.revision w.revision (sym parts_v.revision ∙ parts_w.revision) in
    λ i. record { first = first i; later = later i; letter = letter i; suffixes = suffixes i; revision = revision i }

pub unambiguous : IsUnambiguous
unambiguous v w well_v well_w e = same_parts (spelling v) v w well_v well_w (parts_are v well_v) (let P : Text → Type 0 = λ t. PartsAre t w in subst P (sym e) (parts_are w well_w))
