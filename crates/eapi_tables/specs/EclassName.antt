-- The names of eclasses (Package Manager Specification, "Eclass names").
use Rattle.std.specs.Prelude.{◌≢◌, ℕ, Bool, false, ◌==◌, ◌||◌, [], ◌∷◌, IsTrue, codes}
use Rattle.std.specs.List.{AllPass}
use Rattle.byte_class.specs.Class.{is_name_byte, is_name_start}
use Rattle.eb_bytes.specs.Text.{Text}

-- a byte of an eclass's name: an ASCII letter or digit, an underscore, a full stop or a hyphen
abbrev pub is_eclass_name_byte : ℕ → Bool
is_eclass_name_byte b = is_name_byte b || b == 46 || b == 45

abbrev pub begins_name : Text → Bool
begins_name [] = false
begins_name (b ∷ bs) = is_name_start b

-- the name of an eclass
pub record IsEclassName (name : Text) : Type 0 where
  pub bytes : AllPass is_eclass_name_byte name
  pub start : IsTrue (begins_name name)
  pub reserved : name ≢ codes "default"
