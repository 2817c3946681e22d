-- The eclasses that an entry records.
use Rattle.std.specs.Prelude.{◌≡◌, List, ◌∷◌, ◌++◌, map, All, Contains}
use Rattle.std.specs.List.{join_with_byte}
use Rattle.std.specs.List.Sorted.{IsStrictlySortedBy}
use Rattle.std.specs.Ordering.{nat_cmp}
use Rattle.std.specs.Cmp.Lexicographic.{slice_cmp}
use Rattle.eb_bytes.specs.Text.{Text}
use Rattle.eb_digest.specs.Digest.{digest_text}

-- eclasses and their MD5s, each name below those after it
abbrev pub AreByName : List (Text × Text) → Type 0
AreByName eclasses = IsStrictlySortedBy (slice_cmp nat_cmp) (map (λ eclass. eclass.0) eclasses)

-- the eclasses that were read, each once, by name
pub record IsRecordOf (read recorded : List (Text × Text)) : Type 0 where
  pub by_name : AreByName recorded
  pub only_read : All (Contains read) recorded
  pub all_read : All (Contains recorded) read

-- all reads of one name gave one MD5
pub record HasOneMd5 (read : List (Text × Text)) : Type 0 where
  pub same_md5 : (a b : Text × Text) → Contains read a → Contains read b → a.0 ≡ b.0 → a.1 ≡ b.1

-- an eclass's name and its MD5
abbrev pub eclass_text : Text × Text → Text
eclass_text eclass = eclass.0 ++ 9 ∷ digest_text eclass.1

-- names and MD5s alternating, separated by tabs
abbrev pub record_text : List (Text × Text) → Text
record_text eclasses = join_with_byte 9 (map eclass_text eclasses)
