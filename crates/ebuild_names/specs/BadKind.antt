-- The first bad part of a path, found from the left. `Path` says by the forms of names which it is.
use Rattle.std.specs.Prelude.{Bool, ◌&&◌, ◌-◌, ◌+◌, ◌∷◌, ◌++◌, length, take, drop, nat_eq, Option, Some, None, codes, if◌then◌else◌}
use Rattle.std.specs.Cmp.Lexicographic.{pointwise}
use Rattle.eb_bytes.specs.Text.{Text}
use Rattle.version_funcs.specs.Walk.{is_version_text}
use Rattle.ebuild_names.specs.declared.path.EbuildPath.{EbuildPath}
use Rattle.ebuild_names.specs.declared.path.NameKind.{NameKind}
use Rattle.ebuild_names.specs.declared.path.NameKind.TheVariants as kind
use Rattle.ebuild_names.specs.Form.{is_category_name}
use Rattle.ebuild_names.specs.Walk.{is_package_text}

-- what stands between the package's name with its hyphen and `.ebuild`, where the file is long enough
abbrev pub version_part : (pn file : Text) → Text
version_part pn file = take (length file - (length pn + 8)) (drop (length pn + 1) file)

-- whether the file is the package's name, a hyphen, a version and `.ebuild`
abbrev pub is_file_text : (pn file : Text) → Bool
is_file_text pn file = pointwise nat_eq (pn ++ 45 ∷ (version_part pn file ++ codes ".ebuild")) file && is_version_text (version_part pn file)

abbrev pub bad_file : EbuildPath → Option NameKind
bad_file at = if is_file_text at.«package» at.file then None else Some kind.File

abbrev pub bad_package : EbuildPath → Option NameKind
bad_package at = if is_package_text at.«package» then bad_file at else Some kind.Package

-- the first of its three parts that is bad, if one is
abbrev pub bad_kind : EbuildPath → Option NameKind
bad_kind at = if is_category_name at.category then bad_package at else Some kind.Category
