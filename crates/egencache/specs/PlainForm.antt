-- The plain lines as they are written.
use Rattle.std.specs.Prelude.{◌≡◌, ◌⊎◌, true, false, [], ◌∷◌, ◌++◌}
use Rattle.std.specs.List.{list_all, list_any}
use Rattle.byte_class.specs.Class.{is_blank, is_name, is_nul}
use Rattle.eb_bytes.specs.Text.{Text}
use Rattle.egencache.specs.Plain.{is_bare, is_quotable}

-- only blanks and tabs
pub record IsBlanks (text : Text) : Type 0 where
  pub bytes : list_all is_blank text ≡ true

-- blanks and tabs, then a number sign, then a comment without byte 0
pub record IsComment (line : Text) : Type 0 where
  pub lead : Text
  pub comment : Text
  pub shape : line ≡ lead ++ 35 ∷ comment
  pub blank_lead : IsBlanks lead
  pub no_zero : list_any is_nul comment ≡ false

-- a line that says nothing
abbrev pub IsNothing : Text → Type 0
IsNothing line = IsBlanks line ⊎ IsComment line

-- the value as it is
pub record IsBareSpelling (spelled value : Text) : Type 0 where
  pub shape : spelled ≡ value
  pub bytes : list_all is_bare value ≡ true

-- the value between two double quotes
pub record IsQuotedSpelling (spelled value : Text) : Type 0 where
  pub shape : spelled ≡ 34 ∷ (value ++ 34 ∷ [])
  pub bytes : list_all is_quotable value ≡ true

-- a plain spelling of the value
abbrev pub IsSpelling : (spelled value : Text) → Type 0
IsSpelling spelled value = IsBareSpelling spelled value ⊎ IsQuotedSpelling spelled value

-- blanks and tabs, the name, an equals sign, a plain spelling of the value, blanks and tabs
pub record IsAssignment (line name value : Text) : Type 0 where
  pub lead : Text
  pub spelled : Text
  pub trail : Text
  pub shape : line ≡ lead ++ (name ++ 61 ∷ (spelled ++ trail))
  pub blank_lead : IsBlanks lead
  pub named : is_name name ≡ true
  pub spells : IsSpelling spelled value
  pub blank_trail : IsBlanks trail
