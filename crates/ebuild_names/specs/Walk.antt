-- The names of packages and the texts of a path as the code finds them.
use Rattle.std.specs.Prelude.{◌≡◌, Bool, false, ◌==◌, ◌&&◌, ◌||◌, not, [], ◌∷◌, ◌++◌, codes}
use Rattle.std.specs.List.{list_all, take_while}
use Rattle.eb_bytes.specs.Text.{Text, has_bytes}
use Rattle.version_funcs.specs.Byte.{after_while, is_no}
use Rattle.version_funcs.specs.Version.{IsVersionText}
use Rattle.version_funcs.specs.Walk.{is_version_text}
use Rattle.ebuild_names.specs.declared.path.Names.{Names}
use Rattle.ebuild_names.specs.Form.{begins, is_package_byte, is_sign}

abbrev pub is_hyphen_and_version : Text → Bool
is_hyphen_and_version [] = false
is_hyphen_and_version (b ∷ t) = b == 45 && is_version_text t

-- whether a version stands after some hyphen of the text
abbrev pub ends_in_version : Text → Bool
ends_in_version [] = false
ends_in_version (b ∷ t) = is_hyphen_and_version (b ∷ t) || ends_in_version t

abbrev pub is_package_text : Text → Bool
is_package_text t = has_bytes t && list_all is_package_byte t && not (begins is_sign t) && not (ends_in_version t)

-- a version that the name of the file has after the package's
pub record IsVersionAt (pn file version : Text) : Type 0 where
  pub is_version : IsVersionText version
  pub whole : file ≡ pn ++ 45 ∷ (version ++ codes ".ebuild")

-- the version without its revision, and the revision with its hyphen
abbrev pub before_hyphen : Text → Text
before_hyphen t = take_while (is_no 45) t

abbrev pub from_hyphen : Text → Text
from_hyphen t = after_while (is_no 45) t

-- the revision that stands after a hyphen, `r0` where there is none
abbrev pub after_hyphen : Text → Text
after_hyphen [] = codes "r0"
after_hyphen (b ∷ t) = t

-- the texts of a path with this version
abbrev pub texts_of : (category pn version : Text) → Names
texts_of category pn version = record {
  category = category;
  pn = pn;
  pv = before_hyphen version;
  pr = after_hyphen (from_hyphen version);
  p = pn ++ 45 ∷ before_hyphen version;
  pvr = version;
  pf = pn ++ 45 ∷ version;
}
