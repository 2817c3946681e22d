-- What the path of an ebuild gives (Package Manager Specification, "Names and Versions" and "Ebuild-defined Variables").
use Rattle.std.specs.Prelude.{◌≡◌, true, false, ◌∷◌, ◌++◌, Option, Some, None, codes}
use Rattle.std.specs.Ordering.{nat_cmp, ordering_then}
use Rattle.std.specs.Cmp.Lexicographic.{slice_cmp}
use Rattle.std.specs.declared.cmp.Ordering.{Ordering}
use Rattle.eb_bytes.specs.Text.{Text}
use Rattle.version_funcs.specs.Version.{Version, IsWellFormed, spelling}
use Rattle.ebuild_names.specs.declared.path.EbuildPath.{EbuildPath}
use Rattle.ebuild_names.specs.declared.path.Names.{Names}
use Rattle.ebuild_names.specs.declared.path.NameKind.{NameKind}
use Rattle.ebuild_names.specs.declared.path.NameKind.TheVariants as kind
use Rattle.ebuild_names.specs.Form.{is_category_name, IsPackageName}

-- ---- the seven texts

-- a version without its revision
abbrev pub without_revision : Version → Version
without_revision v = record { first = v.first; later = v.later; letter = v.letter; suffixes = v.suffixes; revision = None }

-- a revision as it is written, `r0` where there is none
abbrev pub revision_name : Option Text → Text
revision_name None = codes "r0"
revision_name (Some digits) = 114 ∷ digits

-- a package's name, a hyphen and a version
abbrev pub with_version : (pn version : Text) → Text
with_version pn version = pn ++ 45 ∷ version

-- the texts of a package of this category, name and version
abbrev pub names_of : (category pn : Text) → Version → Names
names_of category pn v = record {
  category = category;
  pn = pn;
  pv = spelling (without_revision v);
  pr = revision_name v.revision;
  p = with_version pn (spelling (without_revision v));
  pvr = spelling v;
  pf = with_version pn (spelling v);
}

-- ---- paths

-- the file of this package and version: the package's name, a hyphen, the version and `.ebuild`
abbrev pub file_of : (pn : Text) → Version → Text
file_of pn v = with_version pn (spelling v) ++ codes ".ebuild"

-- a file of this package
pub record IsFileOf (pn file : Text) : Type 0 where
  pub version : Version
  pub well_formed : IsWellFormed version
  pub named : file ≡ file_of pn version

-- a path gives these texts: its category and its package are such names, and its file names a version of the package
pub record GivesNames (at : EbuildPath) (names : Names) : Type 0 where
  pub category : is_category_name at.category ≡ true
  pub name : IsPackageName at.«package»
  pub file : IsFileOf at.«package» at.file
  pub texts : names ≡ names_of at.category at.«package» file.version

-- what is bad in a path: the first of its three parts that is no such name
abbrev pub IsBad : EbuildPath → NameKind → Type 0
IsBad at kind.Category = is_category_name at.category ≡ false
IsBad at kind.Package = (is_category_name at.category ≡ true) × ¬ IsPackageName at.«package»
IsBad at kind.File = (is_category_name at.category ≡ true) × IsPackageName at.«package» × ¬ IsFileOf at.«package» at.file

abbrev pub kind_name : NameKind → Text
kind_name kind.Category = codes "category"
kind_name kind.Package = codes "package"
kind_name kind.File = codes "file"

-- ---- the order of paths

-- by category, then by package, then by file, each byte by byte
abbrev pub path_order : EbuildPath → EbuildPath → Ordering
path_order a b =
    ordering_then (slice_cmp nat_cmp a.category b.category)
    (ordering_then (slice_cmp nat_cmp a.«package» b.«package»)
    (slice_cmp nat_cmp a.file b.file))
