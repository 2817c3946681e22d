-- The forms of names (Package Manager Specification, "Names and Versions").
use Rattle.std.specs.Prelude.{◌≡◌, ℕ, Bool, true, false, ◌==◌, ◌&&◌, ◌||◌, not, [], ◌∷◌, ◌++◌}
use Rattle.std.specs.List.{list_all}
use Rattle.eb_bytes.specs.Text.{Text, has_bytes}
use Rattle.byte_class.specs.Class.{is_letter_or_digit, is_name_byte}
use Rattle.version_funcs.specs.Version.{IsVersionText}

-- ---- bytes

-- a letter, a digit, an underscore, a plus or a hyphen
abbrev pub is_package_byte : ℕ → Bool
is_package_byte b = is_name_byte b || b == 43 || b == 45

-- these, and a full stop
abbrev pub is_category_byte : ℕ → Bool
is_category_byte b = is_package_byte b || b == 46

-- the bytes of a package's name, and an at sign
abbrev pub is_flag_byte : ℕ → Bool
is_flag_byte b = is_package_byte b || b == 64

-- a hyphen or a plus
abbrev pub is_sign : ℕ → Bool
is_sign b = b == 45 || b == 43

abbrev pub is_dot : ℕ → Bool
is_dot b = b == 46

-- whether the text begins with such a byte
abbrev pub begins : (ℕ → Bool) → Text → Bool
begins p [] = false
begins p (b ∷ t) = p b

-- ---- names

-- a category, and so also a slot: one of its bytes or more, and neither a hyphen, a plus nor a full stop first
abbrev pub is_category_name : Text → Bool
is_category_name t = has_bytes t && list_all is_category_byte t && not (begins is_sign t) && not (begins is_dot t)

-- a USE flag: its bytes, and a letter or a digit first
abbrev pub is_flag_name : Text → Bool
is_flag_name t = list_all is_flag_byte t && begins is_letter_or_digit t

-- a text that can be cut before a hyphen with a version after it
pub record EndsInVersion (t : Text) : Type 0 where
  pub front : Text
  pub version : Text
  pub is_version : IsVersionText version
  pub whole : t ≡ front ++ 45 ∷ version

-- a package's name: one of its bytes or more, neither a hyphen nor a plus first, and no hyphen and version at the end
pub record IsPackageName (t : Text) : Type 0 where
  pub bytes : (has_bytes t && list_all is_package_byte t) ≡ true
  pub start : begins is_sign t ≡ false
  pub no_version : ¬ EndsInVersion t
