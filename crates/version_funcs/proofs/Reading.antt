-- A text is a version exactly where its parts pass the tests of the reader.
use Rattle.std.proofs.Common.{◌≡◌, ℕ, Bool, true, false, not, ◌&&◌, ◌||◌, ◌==◌, cond, if◌then◌else◌, List, [], ◌∷◌, ◌++◌, map, Option, Some, None, refl, ap, sym, subst, ◌∙◌}
use Rattle.std.specs.Prelude.{codes, is_some}
use Rattle.std.specs.List.{list_all, take_while}
use Rattle.std.specs.Str.{bytes_eq}
use Rattle.std.proofs.lemmas.Bool.{eqb-true}
use Rattle.std.proofs.lemmas.Option.{cond_some}
use Rattle.std.proofs.lemmas.Slice.Eq.{bytes_eq-Decides}
use Rattle.eb_bytes.specs.Text.{Text}
use Rattle.version_funcs.specs.declared.kind.SuffixKind.{SuffixKind}
use Rattle.version_funcs.specs.declared.kind.SuffixKind.TheVariants.{Alpha, Beta, Pre, Candidate, Patch}
use Rattle.byte_class.specs.Class.{is_digit, is_lower}
use Rattle.version_funcs.specs.Byte.{after_while, is_digit_or_dot, is_no}
use Rattle.version_funcs.specs.Version.{Suffix, Version, IsWellFormed, IsVersionText, is_number, is_none_or, is_suffix, kind_name, marked, spelled_letter, spelled_suffix, spelled_revision, spelling}
use Rattle.version_funcs.specs.Walk.{letter_of, after_letter, after_components, first_text, later_text, suffixes_text, revision_text, after_marks, begins_piece, is_revision, kind_named, with_number, suffix_of, is_suffix_text, is_version_text}
use Rattle.version_funcs.proofs.Runs.{take_while-goes_on, take_while-stops}
use Rattle.version_funcs.proofs.Marks.{Cut, stops, cut, take_while-cut, after_while-cut, first_true, rest_true, both_true, marked-after_marks, after_marks-marked}
use Rattle.version_funcs.proofs.Spelled.{PartsAre, parts_are, components_are, suffixes_are, lower_is_no, digit_is_no, digit_no_lower}

-- ---- suffixes

kind_named-name : (kind : SuffixKind) → kind_named (kind_name kind) ≡ Some kind
kind_named-name Alpha = refl
kind_named-name Beta = refl
kind_named-name Pre = refl
kind_named-name Candidate = refl
kind_named-name Patch = refl

name_is_lower : (kind : SuffixKind) → list_all is_lower (kind_name kind) ≡ true
name_is_lower Alpha = refl
name_is_lower Beta = refl
name_is_lower Pre = refl
name_is_lower Candidate = refl
name_is_lower Patch = refl

stops-number : (number : Text) → list_all is_digit number ≡ true → stops is_lower number ≡ true
stops-number [] all = refl
stops-number (b ∷ number) all = ap not (digit_no_lower b (first_true (is_digit b) (list_all is_digit number) all))

-- a suffix is read as it is spelled
pub suffix_of-spelled : (s : Suffix) → is_suffix s ≡ true → suffix_of (spelled_suffix s) ≡ Some s
suffix_of-spelled s digits =
    let here : Cut is_lower (spelled_suffix s) (kind_name s.kind) s.number = record { whole = refl; run = name_is_lower s.kind; stop = stops-number s.number digits } in
    ap (λ (name : Text). with_number (kind_named name) (after_while is_lower (spelled_suffix s))) (take_while-cut is_lower (spelled_suffix s) (kind_name s.kind) s.number here)
    ∙ ap (λ (number : Text). with_number (kind_named (kind_name s.kind)) number) (after_while-cut is_lower (spelled_suffix s) (kind_name s.kind) s.number here)
    ∙ ap (λ (kind : Option SuffixKind). with_number kind s.number) (kind_named-name s.kind)
    ∙ ap (λ (v : Bool). cond v (Some s) None) digits

same_text : (s t : Text) → bytes_eq s t ≡ true → s ≡ t
same_text s t h = (bytes_eq-Decides s t).0 h

-- one step of the look-up of a name
look_up : (name this : Text) (found : SuffixKind) (others : Option SuffixKind) (kind : SuffixKind) → this ≡ kind_name found → (others ≡ Some kind → name ≡ kind_name kind) → (if bytes_eq name this then Some found else others) ≡ Some kind → name ≡ kind_name kind
look_up name this found others kind named rest h = on (bytes_eq name this) refl h
  where
    on : (v : Bool) → bytes_eq name this ≡ v → cond v (Some found) others ≡ Some kind → name ≡ kind_name kind
    on true e h = let same : found ≡ kind = cc in same_text name this e ∙ named ∙ ap kind_name same
    on false e h = rest h

none_found : (name : Text) (found : Option SuffixKind) (kind : SuffixKind) → found ≡ None → found ≡ Some kind → name ≡ kind_name kind
none_found name found kind e h = absurd (cc)

kind_named-is : (name : Text) (kind : SuffixKind) → kind_named name ≡ Some kind → name ≡ kind_name kind
kind_named-is name kind h =
    look_up name (codes "alpha") Alpha _ kind refl
    (look_up name (codes "beta") Beta _ kind refl
    (look_up name (codes "pre") Pre _ kind refl
    (look_up name (codes "rc") Candidate _ kind refl
    (look_up name (codes "p") Patch _ kind refl
    (none_found name None kind refl))))) h

-- a text that is read as a suffix is its spelling
pub record SpellsSuffix (piece : Text) (s : Suffix) : Type 0 where
  pub spelled : spelled_suffix s ≡ piece
  pub digits : is_suffix s ≡ true

with_number-is : (name number : Text) (found : Option SuffixKind) (s : Suffix) → kind_named name ≡ found → with_number found number ≡ Some s → SpellsSuffix (name ++ number) s
with_number-is name number None s e h = absurd (cc)
with_number-is name number (Some kind) s e h =
    let parts = cond_some (list_all is_digit number) (record { kind = kind; number = number }) s h in
    let named : name ≡ kind_name kind = kind_named-is name kind e in
    record {
      spelled = ap spelled_suffix (sym parts.1) ∙ ap (λ (front : Text). front ++ number) (sym named);
      digits = ap is_suffix (sym parts.1) ∙ parts.0;
    }

suffix_of-is : (piece : Text) (s : Suffix) → suffix_of piece ≡ Some s → SpellsSuffix piece s
suffix_of-is piece s h =
    let found = with_number-is (take_while is_lower piece) (after_while is_lower piece) (kind_named (take_while is_lower piece)) s refl h in
    record { spelled = found.spelled ∙ sym (cut is_lower piece).whole; digits = found.digits }

-- the suffixes that the pieces spell
abbrev with_suffix : Option Suffix → List Suffix → List Suffix
with_suffix None ss = ss
with_suffix (Some s) ss = s ∷ ss

abbrev suffixes_of : List Text → List Suffix
suffixes_of [] = []
suffixes_of (piece ∷ parts) = with_suffix (suffix_of piece) (suffixes_of parts)

record SpellsSuffixes (parts : List Text) (ss : List Suffix) : Type 0 where
  spelled : map spelled_suffix ss ≡ parts
  digits : list_all is_suffix ss ≡ true

spells_suffixes : (parts : List Text) → list_all is_suffix_text parts ≡ true → SpellsSuffixes parts (suffixes_of parts)
spells_suffixes [] all = record { spelled = refl; digits = refl }
spells_suffixes (piece ∷ parts) all = on (suffix_of piece) refl (first_true (is_suffix_text piece) (list_all is_suffix_text parts) all) (spells_suffixes parts (rest_true (is_suffix_text piece) (list_all is_suffix_text parts) all))
  where
    on : (found : Option Suffix) → suffix_of piece ≡ found → is_some found ≡ true → SpellsSuffixes parts (suffixes_of parts) → SpellsSuffixes (piece ∷ parts) (with_suffix found (suffixes_of parts))
    on None e some rest = absurd (cc)
    on (Some s) e some rest =
        let this = suffix_of-is piece s e in
        record {
          spelled = ap (λ (t : Text). t ∷ map spelled_suffix (suffixes_of parts)) this.spelled ∙ ap (λ (ts : List Text). piece ∷ ts) rest.spelled;
          digits = both_true (is_suffix s) (list_all is_suffix (suffixes_of parts)) this.digits rest.digits;
        }

-- ---- from a version to the tests

suffix_texts_are : (ss : List Suffix) → list_all is_suffix ss ≡ true → list_all is_suffix_text (map spelled_suffix ss) ≡ true
suffix_texts_are [] all = refl
suffix_texts_are (s ∷ ss) all =
    both_true (is_suffix_text (spelled_suffix s)) (list_all is_suffix_text (map spelled_suffix ss))
    (ap is_some (suffix_of-spelled s (first_true (is_suffix s) (list_all is_suffix ss) all)))
    (suffix_texts_are ss (rest_true (is_suffix s) (list_all is_suffix ss) all))

pub components-after_marks : (parts : List Text) → list_all is_number parts ≡ true → after_marks 46 (marked 46 parts) ≡ parts
components-after_marks parts all = after_marks-marked 46 parts (components_are (is_no 46) (digit_is_no 46 refl) parts all)

pub suffixes-after_marks : (ss : List Suffix) → list_all is_suffix ss ≡ true → after_marks 95 (marked 95 (map spelled_suffix ss)) ≡ map spelled_suffix ss
suffixes-after_marks ss all = after_marks-marked 95 (map spelled_suffix ss) (suffixes_are (is_no 95) (lower_is_no 95 refl) (digit_is_no 95 refl) ss all)

begins_piece-marked : (parts : List Text) → begins_piece 95 (marked 95 parts) ≡ true
begins_piece-marked [] = refl
begins_piece-marked (part ∷ parts) = refl

is_revision-spelled : (revision : Option Text) → is_none_or is_number revision ≡ true → is_revision (spelled_revision revision) ≡ true
is_revision-spelled None h = refl
is_revision-spelled (Some digits) h = h

passes_tests : (t : Text) (v : Version) → IsWellFormed v → PartsAre t v → is_version_text t ≡ true
passes_tests t v well parts =
    both_true _ _ (ap is_number parts.first ∙ well.first_is)
    (both_true _ _ (ap (λ (u : Text). list_all is_number (after_marks 46 u)) parts.later ∙ ap (list_all is_number) (components-after_marks v.later well.later_are) ∙ well.later_are)
    (both_true _ _ (ap (begins_piece 95) parts.suffixes ∙ begins_piece-marked (map spelled_suffix v.suffixes))
    (both_true _ _ (ap (λ (u : Text). list_all is_suffix_text (after_marks 95 u)) parts.suffixes ∙ ap (list_all is_suffix_text) (suffixes-after_marks v.suffixes well.suffixes_are) ∙ suffix_texts_are v.suffixes well.suffixes_are)
    (ap is_revision parts.revision ∙ is_revision-spelled v.revision well.revision_is))))

pub version_passes : (t : Text) → IsVersionText t → is_version_text t ≡ true
version_passes t is =
    passes_tests t is.version is.well_formed (let P : Text → Type 0 = λ u. PartsAre u is.version in subst P (sym is.spelled) (parts_are is.version is.well_formed))

-- ---- from the tests to a version

letter-whole : (t : Text) → t ≡ spelled_letter (letter_of t) ++ after_letter t
letter-whole [] = refl
letter-whole (b ∷ t) = on (is_lower b)
  where
    on : (v : Bool) → b ∷ t ≡ spelled_letter (cond v (Some b) None) ++ cond v t (b ∷ t)
    on true = refl
    on false = refl

letter_is_small : (t : Text) → is_none_or is_lower (letter_of t) ≡ true
letter_is_small [] = refl
letter_is_small (b ∷ t) = on (is_lower b) refl
  where
    on : (v : Bool) → is_lower b ≡ v → is_none_or is_lower (cond v (Some b) None) ≡ true
    on true e = e
    on false e = refl

-- what stands after the first component begins with a dot where a run of digits and dots follows
begins_piece-later : (t : Text) → stops is_digit t ≡ true → begins_piece 46 (take_while is_digit_or_dot t) ≡ true
begins_piece-later [] stop = refl
begins_piece-later (b ∷ t) stop = on (is_digit_or_dot b) refl
  where
    dot : (v w : Bool) → not v ≡ true → (v || w) ≡ true → w ≡ true
    dot true w stop either = absurd (cc)
    dot false w stop either = either

    on : (v : Bool) → is_digit_or_dot b ≡ v → begins_piece 46 (take_while is_digit_or_dot (b ∷ t)) ≡ true
    on true e = ap (begins_piece 46) (take_while-goes_on is_digit_or_dot b t e) ∙ dot (is_digit b) (b == 46) stop e
    on false e = ap (begins_piece 46) (take_while-stops is_digit_or_dot b t e)

abbrev revision_of : Text → Option Text
revision_of [] = None
revision_of (b ∷ []) = None
revision_of (b ∷ c ∷ digits) = Some digits

record SpellsRevision (t : Text) : Type 0 where
  spelled : spelled_revision (revision_of t) ≡ t
  digits : is_none_or is_number (revision_of t) ≡ true

spells_revision : (t : Text) → is_revision t ≡ true → SpellsRevision t
spells_revision [] h = record { spelled = refl; digits = refl }
spells_revision (b ∷ []) h = absurd (cc)
spells_revision (b ∷ c ∷ digits) h =
    let hyphen : 45 ≡ b = sym (eqb-true b 45 (first_true (b == 45) (c == 114 && is_number digits) h)) in
    let others : (c == 114 && is_number digits) ≡ true = rest_true (b == 45) (c == 114 && is_number digits) h in
    let r : 114 ≡ c = sym (eqb-true c 114 (first_true (c == 114) (is_number digits) others)) in
    record {
      spelled = ap (λ (b : ℕ). b ∷ 114 ∷ digits) hyphen ∙ ap (λ (c : ℕ). b ∷ c ∷ digits) r;
      digits = rest_true (c == 114) (is_number digits) others;
    }

-- the version that the parts of a text spell
abbrev version_of : Text → Version
version_of t = record {
  first = first_text t;
  later = after_marks 46 (later_text t);
  letter = letter_of (after_components t);
  suffixes = suffixes_of (after_marks 95 (suffixes_text t));
  revision = revision_of (revision_text t);
}

-- what the tests say
record Passes (t : Text) : Type 0 where
  first : is_number (first_text t) ≡ true
  later : list_all is_number (after_marks 46 (later_text t)) ≡ true
  begins : begins_piece 95 (suffixes_text t) ≡ true
  suffixes : list_all is_suffix_text (after_marks 95 (suffixes_text t)) ≡ true
  revision : is_revision (revision_text t) ≡ true

passes : (t : Text) → is_version_text t ≡ true → Passes t
passes t h =
    let second = rest_true (is_number (first_text t)) _ h in
    let third = rest_true (list_all is_number (after_marks 46 (later_text t))) _ second in
    let fourth = rest_true (begins_piece 95 (suffixes_text t)) _ third in
    record {
      first = first_true (is_number (first_text t)) _ h;
      later = first_true (list_all is_number (after_marks 46 (later_text t))) _ second;
      begins = first_true (begins_piece 95 (suffixes_text t)) _ third;
      suffixes = first_true (list_all is_suffix_text (after_marks 95 (suffixes_text t))) _ fourth;
      revision = rest_true (list_all is_suffix_text (after_marks 95 (suffixes_text t))) _ fourth;
    }

spelled_as_read : (t : Text) → Passes t → t ≡ spelling (version_of t)
spelled_as_read t pass =
    let after_first = after_while is_digit t in
    let suffixes : map spelled_suffix (suffixes_of (after_marks 95 (suffixes_text t))) ≡ after_marks 95 (suffixes_text t) = (spells_suffixes (after_marks 95 (suffixes_text t)) pass.suffixes).spelled in
    let last : suffixes_text t ++ revision_text t ≡ marked 95 (map spelled_suffix (suffixes_of (after_marks 95 (suffixes_text t)))) ++ spelled_revision (revision_of (revision_text t)) =
    ap (λ (u : Text). u ++ revision_text t) (sym (ap (marked 95) suffixes ∙ marked-after_marks 95 (suffixes_text t) pass.begins))
    ∙ ap (λ (u : Text). marked 95 (map spelled_suffix (suffixes_of (after_marks 95 (suffixes_text t)))) ++ u) (sym (spells_revision (revision_text t) pass.revision).spelled) in
    let later : later_text t ≡ marked 46 (after_marks 46 (later_text t)) = sym (marked-after_marks 46 (later_text t) (begins_piece-later (after_while is_digit t) (cut is_digit t).stop)) in
    (cut is_digit t).whole
    ∙ ap (λ (u : Text). first_text t ++ u)
    ((cut is_digit_or_dot (after_while is_digit t)).whole
    ∙ ap (λ (u : Text). u ++ after_components t) later
    ∙ ap (λ (u : Text). marked 46 (after_marks 46 (later_text t)) ++ u)
    (letter-whole (after_components t)
    ∙ ap (λ (u : Text). spelled_letter (letter_of (after_components t)) ++ u)
    ((cut (is_no 45) (after_letter (after_components t))).whole ∙ last)))

well_formed_as_read : (t : Text) → Passes t → IsWellFormed (version_of t)
well_formed_as_read t pass = record {
  first_is = pass.first;
  later_are = pass.later;
  letter_is = letter_is_small (after_components t);
  suffixes_are = (spells_suffixes (after_marks 95 (suffixes_text t)) pass.suffixes).digits;
  revision_is = (spells_revision (revision_text t) pass.revision).digits;
}

pub passes_version : (t : Text) → is_version_text t ≡ true → IsVersionText t
passes_version t h = record { version = version_of t; well_formed = well_formed_as_read t (passes t h); spelled = spelled_as_read t (passes t h) }
