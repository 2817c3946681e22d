-- Versions and how they are spelled (Package Manager Specification, "Version Specifications").
use Rattle.std.specs.Prelude.{◌≡◌, ℕ, Bool, true, ◌&&◌, List, [], ◌∷◌, ◌++◌, map, Option, Some, None, codes}
use Rattle.std.specs.List.{list_all}
use Rattle.eb_bytes.specs.Text.{Text, has_bytes}
use Rattle.version_funcs.specs.declared.kind.SuffixKind.{SuffixKind}
use Rattle.version_funcs.specs.declared.kind.SuffixKind.TheVariants.{Alpha, Beta, Pre, Candidate, Patch}
use Rattle.byte_class.specs.Class.{is_digit, is_lower}

-- ---- numbers

-- one digit or more
abbrev pub is_number : Text → Bool
is_number t = has_bytes t && list_all is_digit t

-- ---- parts

abbrev pub kind_name : SuffixKind → Text
kind_name Alpha = codes "alpha"
kind_name Beta = codes "beta"
kind_name Pre = codes "pre"
kind_name Candidate = codes "rc"
kind_name Patch = codes "p"

-- the place of a kind in the order of the kinds
abbrev pub kind_rank : SuffixKind → ℕ
kind_rank Alpha = 0
kind_rank Beta = 1
kind_rank Pre = 2
kind_rank Candidate = 3
kind_rank Patch = 4

-- a kind, and the digits of its number, which may be none
pub record Suffix : Type 0 where
  pub kind : SuffixKind
  pub number : Text

-- the digits of the first component and of the later ones, the letter, the suffixes, and the digits of the revision
pub record Version : Type 0 where
  pub first : Text
  pub later : List Text
  pub letter : Option ℕ
  pub suffixes : List Suffix
  pub revision : Option Text

abbrev pub is_suffix : Suffix → Bool
is_suffix s = list_all is_digit s.number

-- nothing, or what passes
abbrev pub is_none_or : {T : Type 0} → (T → Bool) → Option T → Bool
is_none_or p None = true
is_none_or p (Some x) = p x

-- components and a revision of one digit or more each, a letter from a to z, and numbers of digits
pub record IsWellFormed (v : Version) : Type 0 where
  pub first_is : is_number v.first ≡ true
  pub later_are : list_all is_number v.later ≡ true
  pub letter_is : is_none_or is_lower v.letter ≡ true
  pub suffixes_are : list_all is_suffix v.suffixes ≡ true
  pub revision_is : is_none_or is_number v.revision ≡ true

-- ---- spelling

-- the parts, each after this mark
abbrev pub marked : ℕ → List Text → Text
marked mark [] = []
marked mark (part ∷ parts) = mark ∷ (part ++ marked mark parts)

abbrev pub spelled_letter : Option ℕ → Text
spelled_letter None = []
spelled_letter (Some b) = b ∷ []

abbrev pub spelled_suffix : Suffix → Text
spelled_suffix s = kind_name s.kind ++ s.number

abbrev pub spelled_revision : Option Text → Text
spelled_revision None = []
spelled_revision (Some number) = 45 ∷ 114 ∷ number

-- the first component, the later ones each after a dot, the letter, the suffixes each after an underscore, and the
-- revision after `-r`
abbrev pub spelling : Version → Text
spelling v =
    v.first ++ (marked 46 v.later ++ (spelled_letter v.letter ++ (marked 95 (map spelled_suffix v.suffixes) ++ spelled_revision v.revision)))

-- a text that spells a version
pub record IsVersionText (t : Text) : Type 0 where
  pub version : Version
  pub well_formed : IsWellFormed version
  pub spelled : t ≡ spelling version
