-- What the arguments ask for.
use Rattle.std.specs.Prelude.{◌&&◌, nat_eq, List, [], ◌∷◌, ◌++◌, Option, Some, None, codes, if◌then◌else◌}
use Rattle.std.specs.List.{ends_with, list_any, slice_split}
use Rattle.std.specs.Option.{option_map}
use Rattle.byte_class.specs.Class.{is_nul}
use Rattle.eb_bytes.specs.Text.{Text, has_bytes}
use Rattle.eb_files.specs.Paths.{is_slash, path_of}
use Rattle.ebuild_names.specs.declared.path.EbuildPath.{EbuildPath}
use Rattle.egencache.specs.Assignments.{is_text}

-- one ebuild of a repository: its file's path, and its path in the repository, as it was written and in parts
pub record Request : Type 0 where
  pub path : Text
  pub at : Text
  pub place : EbuildPath

-- ---- CAT/PN/FILE

-- three parts, none of them empty, the last of which ends in .ebuild
abbrev pub as_place : (category name file : Text) → Option EbuildPath
as_place category name file = if has_bytes category && has_bytes name && has_bytes file && ends_with nat_eq file (codes ".ebuild") then Some (record { category = category; «package» = name; file = file }) else None

abbrev pub place_of_parts : List Text → Option EbuildPath
place_of_parts [] = None
place_of_parts (a ∷ []) = None
place_of_parts (a ∷ b ∷ []) = None
place_of_parts (a ∷ b ∷ c ∷ []) = as_place a b c
place_of_parts (a ∷ b ∷ c ∷ d ∷ more) = None

-- the parts of CAT/PN/FILE
abbrev pub place_of : Text → Option EbuildPath
place_of at = place_of_parts (slice_split is_slash at)

-- ---- the arguments

-- the file below the root
abbrev pub asked_below : Text → Text → EbuildPath → Request
asked_below root at place = record { path = root ++ 47 ∷ at; at = at; place = place }

abbrev pub asked_at : Option Text → Text → Option Request
asked_at None at = None
asked_at (Some root) at = if list_any is_nul at then None else option_map (asked_below root at) (place_of at)

-- the arguments `print REPO CAT/PN/FILE`; all others are invalid
abbrev pub request_of : List Text → Option Request
request_of [] = None
request_of (command ∷ []) = None
request_of (command ∷ repository ∷ []) = None
request_of (command ∷ repository ∷ at ∷ []) = if is_text command (codes "print") then asked_at (path_of repository) at else None
request_of (command ∷ repository ∷ at ∷ word ∷ words) = None
