-- The first bad part of a path is found from the left.
use Rattle.std.proofs.Common.{◌≡◌, ℕ, ◌+◌, ◌-◌, Bool, true, false, nat_eq, [], ◌∷◌, ◌++◌, length, take, drop, Some, None, codes, refl, ap, sym, subst, ◌∙◌, arith, append_assoc, length-append}
use denote.Ref.{Bor}
use Rattle.std.specs.Prelude.{Result, Ok, Err, IfErr, IfOk}
use Rattle.std.specs.Result.{result_err}
use Rattle.std.specs.Cmp.Lexicographic.{pointwise}
use Rattle.std.proofs.lemmas.Slice.Eq.{bytes_eq-Decides}
use Rattle.std.proofs.Math.Seq.{drop-append_seam, take-append_seam}
use Rattle.eb_bytes.specs.Text.{Text}
use Rattle.version_funcs.specs.Version.{IsVersionText, spelling}
use Rattle.version_funcs.specs.Walk.{is_version_text}
use Rattle.version_funcs.proofs.Marks.{both_true, first_true, rest_true}
use Rattle.version_funcs.proofs.Reading.{passes_version, version_passes}
use Rattle.ebuild_names.specs.declared.path.EbuildPath.{EbuildPath}
use Rattle.ebuild_names.specs.declared.path.Names.{Names}
use Rattle.ebuild_names.specs.declared.path.NameKind.{NameKind}
use Rattle.ebuild_names.specs.declared.path.NameKind.TheVariants as kind
use Rattle.ebuild_names.specs.BadKind.{bad_kind, is_file_text, version_part}
use Rattle.ebuild_names.specs.Form.{is_category_name, IsPackageName}
use Rattle.ebuild_names.specs.Path.{GivesNames, IsBad, IsFileOf}
use Rattle.ebuild_names.specs.Walk.{IsVersionAt, is_package_text, texts_of}
use Rattle.ebuild_names.proofs.Cuts.{file_parts}
use Rattle.ebuild_names.proofs.Ends.{package_name, package_text}
use Rattle.ebuild_names.proofs.Named.{file_of_version, gives_names}

-- ---- files

version_part-of : (pn v : Text) → version_part pn (pn ++ 45 ∷ (v ++ codes ".ebuild")) ≡ v
version_part-of pn v =
    let file : Text = pn ++ 45 ∷ (v ++ codes ".ebuild") in
    let apart : (pn ++ 45 ∷ []) ++ (v ++ codes ".ebuild") ≡ file = append_assoc pn (45 ∷ []) (v ++ codes ".ebuild") in
    let front : length (pn ++ 45 ∷ []) ≡ length pn + 1 = length-append pn (45 ∷ []) in
    let after : drop (length pn + 1) file ≡ v ++ codes ".ebuild" =
    ap (λ (n : ℕ). drop n file) (sym front) ∙ ap (λ (t : Text). drop (length (pn ++ 45 ∷ [])) t) (sym apart) ∙ drop-append_seam (pn ++ 45 ∷ []) (v ++ codes ".ebuild") in
    let count : length file - (length pn + 8) ≡ length v = omega (arith, length-append pn (45 ∷ (v ++ codes ".ebuild")), length-append v (codes ".ebuild")) in
    ap (λ (n : ℕ). take n (drop (length pn + 1) file)) count ∙ ap (λ (t : Text). take (length v) t) after ∙ take-append_seam v (codes ".ebuild")

is_file_text-whole : (pn v : Text) → is_version_text v ≡ true → is_file_text pn (pn ++ 45 ∷ (v ++ codes ".ebuild")) ≡ true
is_file_text-whole pn v is =
    let file : Text = pn ++ 45 ∷ (v ++ codes ".ebuild") in
    let again : pn ++ 45 ∷ (version_part pn file ++ codes ".ebuild") ≡ file = ap (λ (t : Text). pn ++ 45 ∷ (t ++ codes ".ebuild")) (version_part-of pn v) in
    both_true (pointwise nat_eq (pn ++ 45 ∷ (version_part pn file ++ codes ".ebuild")) file) (is_version_text (version_part pn file))
    ((bytes_eq-Decides (pn ++ 45 ∷ (version_part pn file ++ codes ".ebuild")) file).1 again)
    (ap is_version_text (version_part-of pn v) ∙ is)

file-is_file_text : (pn file : Text) → IsFileOf pn file → is_file_text pn file ≡ true
file-is_file_text pn file is =
    let spelled : IsVersionText (spelling is.version) = record { version = is.version; well_formed = is.well_formed; spelled = refl } in
    ap (is_file_text pn) (is.named ∙ file_parts pn (spelling is.version)) ∙ is_file_text-whole pn (spelling is.version) (version_passes (spelling is.version) spelled)

is_file_text-file : (pn file : Text) → is_file_text pn file ≡ true → IsFileOf pn file
is_file_text-file pn file h =
    let v : Text = version_part pn file in
    let again = first_true (pointwise nat_eq (pn ++ 45 ∷ (v ++ codes ".ebuild")) file) (is_version_text v) h in
    let is = rest_true (pointwise nat_eq (pn ++ 45 ∷ (v ++ codes ".ebuild")) file) (is_version_text v) h in
    let at : IsVersionAt pn file v = record { is_version = passes_version v is; whole = sym ((bytes_eq-Decides (pn ++ 45 ∷ (v ++ codes ".ebuild")) file).0 again) } in
    file_of_version pn file v at

-- ---- paths

pub bad_kind-none : (at : EbuildPath) (names : Names) → GivesNames at names → bad_kind at ≡ None
bad_kind-none at names gives =
    let category : is_category_name at.category ≡ true = gives.category in
    let name : is_package_text at.«package» ≡ true = package_text at.«package» gives.name in
    let file : is_file_text at.«package» at.file ≡ true = file-is_file_text at.«package» at.file gives.file in
    rw (category, name, file) refl

no_name : (t : Text) → ¬ IsPackageName t → is_package_text t ≡ false
no_name t none = on (is_package_text t) refl
  where
    on : (v : Bool) → is_package_text t ≡ v → is_package_text t ≡ false
    on true e = absurd (none (package_name t e))
    on false e = e

no_file : (pn file : Text) → ¬ IsFileOf pn file → is_file_text pn file ≡ false
no_file pn file none = on (is_file_text pn file) refl
  where
    on : (v : Bool) → is_file_text pn file ≡ v → is_file_text pn file ≡ false
    on true e = absurd (none (is_file_text-file pn file e))
    on false e = e

pub bad_kind-some : (at : EbuildPath) (k : NameKind) → IsBad at k → bad_kind at ≡ Some k
bad_kind-some at kind.Category bad = let category : is_category_name at.category ≡ false = bad in rw category refl
bad_kind-some at kind.Package bad =
    let category : is_category_name at.category ≡ true = bad.0 in
    let name : is_package_text at.«package» ≡ false = no_name at.«package» bad.1 in
    rw (category, name) refl
bad_kind-some at kind.File bad =
    let category : is_category_name at.category ≡ true = bad.0 in
    let name : is_package_text at.«package» ≡ true = package_text at.«package» bad.1 in
    let file : is_file_text at.«package» at.file ≡ false = no_file at.«package» at.file bad.2 in
    rw (category, name, file) refl

-- ---- what the reader answers

-- the parts of a path were read: the version of its file, or its first bad part
pub record IsRead (at : EbuildPath) (read : Result (Bor Text) NameKind) : Type 0 where
  pub version : IfOk read (λ v. IsVersionAt at.«package» at.file v.now)
  pub category : IfOk read (λ v. is_category_name at.category ≡ true)
  pub name : IfOk read (λ v. IsPackageName at.«package»)
  pub bad : IfErr read (λ kind. IsBad at kind)

pub bad_kind-read : (at : EbuildPath) (read : Result (Bor Text) NameKind) → IsRead at read → bad_kind at ≡ result_err read
bad_kind-read at (Ok v) is =
    let names : Names = texts_of at.category at.«package» v.now in
    bad_kind-none at names (gives_names at v.now names is.category is.name is.version refl)
bad_kind-read at (Err kind) is = bad_kind-some at kind is.bad

pub read-bad : (at : EbuildPath) (read : Result (Bor Text) NameKind) (kind : NameKind) → IsRead at read → result_err read ≡ Some kind → IsBad at kind
read-bad at (Ok v) kind is e = absurd (cc)
read-bad at (Err k) kind is e = let same : k ≡ kind = cc in subst (IsBad at) same is.bad
