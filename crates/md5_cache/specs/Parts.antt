-- What the lines of an entry's text say before the rules of entries are checked, for the functions that read it.
use Rattle.std.specs.Prelude.{◌≡◌, ◌≢◌, ℕ, Bool, not, ◌==◌, ◌||◌, nat_eq, List, [], ◌∷◌, ◌++◌, All, Option, Some, None, IsTrue, codes}
use Rattle.std.specs.Cmp.Lexicographic.{pointwise}
use Rattle.std.specs.List.{AllPass, flat_map, list_all}
use Rattle.eb_bytes.specs.Text.{Text, has_bytes, norm}
use Rattle.eb_digest.specs.Digest.{IsDigest, digest_text}
use Rattle.eapi_tables.specs.Eapi.{has_key}
use Rattle.eapi_tables.specs.EclassName.{IsEclassName}
use Rattle.eapi_tables.specs.declared.eapi.Eapi.{Eapi}
use Rattle.eapi_tables.specs.declared.key.Key.{Key}
use Rattle.md5_cache.specs.Entry.{EntryContent, HasNoZero, eclasses_line, entry_text, line, value_line}
use Rattle.md5_cache.specs.Record.{eclass_text, record_text}

-- the byte is another one than c
abbrev pub differs : ℕ → ℕ → Bool
differs c b = not (b == c)

-- the text does not hold the byte
abbrev pub Lacks : ℕ → Text → Type 0
Lacks c text = AllPass (differs c) text

-- the text is cut at the first byte c: what stands before it, and after it
pub record IsCut (c : ℕ) (text front rest : Text) : Type 0 where
  pub is : text ≡ front ++ (c ∷ rest)
  pub lacks : Lacks c front

-- the text begins with this line, and this text follows the line
pub record BeginsLine (text name value rest : Text) : Type 0 where
  pub is : text ≡ line name value ++ rest
  pub name_lacks : Lacks 61 name
  pub value_lacks : Lacks 10 value

-- the text begins with no line `NAME=value`
abbrev pub HasNoLine : Text → Type 0
HasNoLine text = (name value rest : Text) → Lacks 61 name → Lacks 10 name → Lacks 10 value → text ≢ line name value ++ rest

-- the text begins with this line of a key, and this text follows the line
pub record BeginsValue (text : Text) (value : Key × Text) (rest : Text) : Type 0 where
  pub is : text ≡ value_line value ++ rest
  pub lacks : Lacks 10 value.1

-- the text begins with no line `KEY=value` of a key
abbrev pub HasNoValueLine : Text → Type 0
HasNoValueLine text = (value : Key × Text) (rest : Text) → Lacks 10 value.1 → text ≢ value_line value ++ rest

-- the text is the lines of these values and then this one, which begins with no such line
pub record AreFirstValues (text : Text) (values : List (Key × Text)) (rest : Text) : Type 0 where
  pub is : text ≡ flat_map value_line values ++ rest
  pub lack : All (λ value. Lacks 10 value.1) values
  pub ended : HasNoValueLine rest

-- an eclass has the name of one, and a digest
pub record IsEclass (eclass : Text × Text) : Type 0 where
  pub name : IsEclassName eclass.0
  pub digest : IsDigest eclass.1

-- whether these are not two MD5s of one name
abbrev pub agree : Text × Text → Text × Text → Bool
agree a b = not (pointwise nat_eq a.0 b.0) || pointwise nat_eq a.1 b.1

-- whether no two of these are two MD5s of one name
abbrev pub all_agree : List (Text × Text) → Bool
all_agree eclasses = list_all (λ eclass. list_all (agree eclass) eclasses) eclasses

-- what may follow an eclass in the record: nothing, or a tab and this text
abbrev pub after_eclass : Option Text → Text
after_eclass None = []
after_eclass (Some rest) = 9 ∷ rest

-- the text begins with this eclass, and nothing follows, or a tab and this text
pub record BeginsEclass (text : Text) (eclass : Text × Text) (rest : Option Text) : Type 0 where
  pub is : text ≡ eclass_text eclass ++ after_eclass rest
  pub sound : IsEclass eclass

-- the text begins with no eclass
abbrev pub HasNoEclass : Text → Type 0
HasNoEclass text = (eclass : Text × Text) (rest : Option Text) → IsEclass eclass → text ≢ eclass_text eclass ++ after_eclass rest

-- the text is the record of these eclasses, of which there are some
pub record IsRecordText (text : Text) (eclasses : List (Text × Text)) : Type 0 where
  pub is : text ≡ record_text eclasses
  pub some : eclasses ≢ []
  pub sound : All IsEclass eclasses

-- the text is the record of no eclasses
abbrev pub IsNoRecord : Text → Type 0
IsNoRecord text = (eclasses : List (Text × Text)) → ¬ IsRecordText text eclasses

-- a record that was read up to a place: these eclasses, and where there is more of it, a tab and this text
abbrev pub record_with : List (Text × Text) → Option Text → Text
record_with eclasses None = record_text eclasses
record_with eclasses (Some rest) = flat_map (λ eclass. eclass_text eclass ++ 9 ∷ []) eclasses ++ rest

-- the line of the MD5
abbrev pub md5_line : Text → Text
md5_line md5 = line (codes "_md5_") (digest_text md5)

-- the lines of the eclasses and of the MD5
abbrev pub last_lines : List (Text × Text) → Text → Text
last_lines eclasses md5 = eclasses_line eclasses ++ md5_line md5

-- what lines can say: no value holds a newline, and eclasses and digests are such
pub record IsPlain (entry : EntryContent) : Type 0 where
  pub values : All (λ value. Lacks 10 value.1) entry.values
  pub eclasses : All IsEclass entry.eclasses
  pub digest : IsDigest entry.md5

-- the text is the lines of these eclasses and of this MD5
pub record AreLastLines (text : Text) (eclasses : List (Text × Text)) (md5 : Text) : Type 0 where
  pub is : text ≡ last_lines eclasses md5
  pub sound : All IsEclass eclasses
  pub digest : IsDigest md5

-- the text is the line of this MD5
pub record IsMd5Line (text md5 : Text) : Type 0 where
  pub is : text ≡ md5_line md5
  pub digest : IsDigest md5

-- the text is what lines say
pub record IsPlainText (text : Text) (entry : EntryContent) : Type 0 where
  pub is : entry_text entry ≡ text
  pub plain : IsPlain entry

-- ---- the rules of one value

-- the EAPI has the key, and the value is in normal form, has bytes, and none of them is 0
pub record KeepsRules (eapi : Eapi) (value : Key × Text) : Type 0 where
  pub known : IsTrue (has_key eapi value.0)
  pub normal : norm value.1 ≡ value.1
  pub full : IsTrue (has_bytes value.1)
  pub no_zero : HasNoZero value.1
