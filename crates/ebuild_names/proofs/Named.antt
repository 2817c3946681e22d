-- What a path gives, and what is bad in it.
use Rattle.std.proofs.Common.{◌≡◌, true, Some, None, ◌∷◌, ◌++◌, refl, ap, sym, subst, ◌∙◌, append_assoc}
use Rattle.std.proofs.Common.{◌⊎◌, inl, inr}
use Rattle.std.specs.Prelude.{Option, codes}
use Rattle.std.proofs.lemmas.List.{append_cancel_right, append-nil}
use Rattle.eb_bytes.specs.Text.{Text}
use Rattle.version_funcs.specs.Version.{Version, IsWellFormed, spelled_revision, spelling}
use Rattle.ebuild_names.specs.declared.path.EbuildPath.{EbuildPath}
use Rattle.ebuild_names.specs.declared.path.Names.{Names}
use Rattle.ebuild_names.specs.declared.path.NameKind.{NameKind}
use Rattle.ebuild_names.specs.declared.path.NameKind.TheVariants as kind
use Rattle.ebuild_names.specs.Form.{is_category_name, IsPackageName}
use Rattle.ebuild_names.specs.Path.{GivesNames, IsBad, IsFileOf, names_of, revision_name, with_version, without_revision}
use Rattle.ebuild_names.specs.Walk.{IsVersionAt, texts_of}
use Rattle.ebuild_names.specs.Laws.{BadIsOne, FileIsFullName, FullNameHasOnePath, FullNameHasRevision, FullNameHasVersion, NamedIsNotBad, NamesAreOne}
use Rattle.ebuild_names.proofs.Cuts.{file_parts}
use Rattle.ebuild_names.proofs.Texts.{one_cut, revision_cut, texts_of-spelling}

-- ---- what is read

abbrev pub file_of_version : (pn file version : Text) (is : IsVersionAt pn file version) → IsFileOf pn file
file_of_version pn file version is = record {
  version = is.is_version.version;
  well_formed = is.is_version.well_formed;
  named = is.whole ∙ ap (λ (s : Text). pn ++ 45 ∷ (s ++ codes ".ebuild")) is.is_version.spelled ∙ sym (file_parts pn (spelling is.is_version.version));
}

pub gives_names : (at : EbuildPath) (version : Text) (names : Names) → is_category_name at.category ≡ true → IsPackageName at.«package» → IsVersionAt at.«package» at.file version → names ≡ texts_of at.category at.«package» version → GivesNames at names
gives_names at version names category name is e = record {
  category = category;
  name = name;
  file = file_of_version at.«package» at.file version is;
  texts = e ∙ ap (texts_of at.category at.«package») is.is_version.spelled ∙ texts_of-spelling at.category at.«package» is.is_version.version is.is_version.well_formed;
}

-- ---- what is bad

not_bad : (at : EbuildPath) (kind : NameKind) → is_category_name at.category ≡ true → IsPackageName at.«package» → IsFileOf at.«package» at.file → ¬ IsBad at kind
not_bad at kind.Category category name file bad = absurd (cc)
not_bad at kind.Package category name file bad = bad.1 name
not_bad at kind.File category name file bad = bad.2 file

pub named_not_bad : NamedIsNotBad
named_not_bad at names kind gives = not_bad at kind gives.category gives.name gives.file

pub version_not_bad : (at : EbuildPath) (version : Text) (kind : NameKind) → is_category_name at.category ≡ true → IsPackageName at.«package» → IsVersionAt at.«package» at.file version → ¬ IsBad at kind
version_not_bad at version kind category name is = not_bad at kind category name (file_of_version at.«package» at.file version is)

pub bad_is_one : BadIsOne
bad_is_one at kind.Category kind.Category bad other = refl
bad_is_one at kind.Category kind.Package bad other = let yes : is_category_name at.category ≡ true = other.0 in absurd (cc)
bad_is_one at kind.Category kind.File bad other = let yes : is_category_name at.category ≡ true = other.0 in absurd (cc)
bad_is_one at kind.Package kind.Category bad other = let yes : is_category_name at.category ≡ true = bad.0 in absurd (cc)
bad_is_one at kind.Package kind.Package bad other = refl
bad_is_one at kind.Package kind.File bad other = absurd (bad.1 other.1)
bad_is_one at kind.File kind.Category bad other = let yes : is_category_name at.category ≡ true = bad.0 in absurd (cc)
bad_is_one at kind.File kind.Package bad other = absurd (other.1 bad.1)
bad_is_one at kind.File kind.File bad other = refl

-- ---- laws

pub file_is_full_name : FileIsFullName
file_is_full_name at names gives = gives.file.named ∙ ap (λ (n : Names). n.pf ++ codes ".ebuild") (sym gives.texts)

pub full_name_has_version : FullNameHasVersion
full_name_has_version at names gives = ap (λ (n : Names). n.pf) gives.texts ∙ ap (λ (n : Names). n.pn ++ 45 ∷ n.pvr) (sym gives.texts)

-- the same of a version, by its revision
pub revision_after : (category pn : Text) (v : Version) → IsWellFormed v → let n = names_of category pn v in ((n.pf ≡ n.p) × (n.pr ≡ codes "r0")) ⊎ (n.pf ≡ n.p ++ 45 ∷ n.pr)
revision_after category pn v well = on v.revision refl
  where
    cut : spelling v ≡ spelling (without_revision v) ++ spelled_revision v.revision
    cut = (revision_cut v well).whole

    on : (revision : Option Text) → v.revision ≡ revision → let n = names_of category pn v in ((n.pf ≡ n.p) × (n.pr ≡ codes "r0")) ⊎ (n.pf ≡ n.p ++ 45 ∷ n.pr)
    on None e = inl (
      ap (with_version pn) (cut ∙ ap (λ (r : Option Text). spelling (without_revision v) ++ spelled_revision r) e ∙ append-nil (spelling (without_revision v))),
      ap revision_name e,
    )
    on (Some digits) e = inr
        (ap (with_version pn) (cut ∙ ap (λ (r : Option Text). spelling (without_revision v) ++ spelled_revision r) e)
        ∙ sym (append_assoc pn (45 ∷ spelling (without_revision v)) (45 ∷ 114 ∷ digits))
        ∙ ap (λ (r : Option Text). with_version pn (spelling (without_revision v)) ++ 45 ∷ revision_name r) (sym e))

pub full_name_has_revision : FullNameHasRevision
full_name_has_revision at names gives =
    let P : Names → Type 0 = λ n. ((n.pf ≡ n.p) × (n.pr ≡ codes "r0")) ⊎ (n.pf ≡ n.p ++ 45 ∷ n.pr) in
    subst P (sym gives.texts) (revision_after at.category at.«package» gives.file.version gives.file.well_formed)

pub names_are_one : NamesAreOne
names_are_one at names others gives other =
    let files : with_version at.«package» (spelling gives.file.version) ≡ with_version at.«package» (spelling other.file.version) =
    append_cancel_right _ _ (codes ".ebuild") (sym gives.file.named ∙ other.file.named) in
    let same = one_cut at.«package» at.«package» gives.file.version other.file.version gives.file.well_formed other.file.well_formed files in
    gives.texts ∙ ap (names_of at.category at.«package») same.1 ∙ sym other.texts

pub full_name_has_one_path : FullNameHasOnePath
full_name_has_one_path at other names others gives gives_others category full =
    let categories : at.category ≡ other.category = ap (λ (n : Names). n.category) (sym gives.texts) ∙ category ∙ ap (λ (n : Names). n.category) gives_others.texts in
    let fulls : with_version at.«package» (spelling gives.file.version) ≡ with_version other.«package» (spelling gives_others.file.version) =
    ap (λ (n : Names). n.pf) (sym gives.texts) ∙ full ∙ ap (λ (n : Names). n.pf) gives_others.texts in
    let packages = (one_cut at.«package» other.«package» gives.file.version gives_others.file.version gives.file.well_formed gives_others.file.well_formed fulls).0 in
    let files : at.file ≡ other.file = gives.file.named ∙ ap (λ (s : Text). s ++ codes ".ebuild") fulls ∙ sym gives_others.file.named in
    λ i. record { category = categories i; «package» = packages i; file = files i }
