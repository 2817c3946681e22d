-- What an entry says, and its text.
use Rattle.std.specs.Prelude.{◌≡◌, ◌≢◌, Bool, false, ◌==◌, ◌&&◌, if◌then◌else◌, List, [], ◌∷◌, ◌++◌, map, find, All, Option, Some, None, IsSome, IsTrue, codes, nat_eq}
use Rattle.std.specs.List.{filter_map, flat_map, list_all}
use Rattle.std.specs.List.Sorted.{IsStrictlySortedBy}
use Rattle.std.specs.Option.{option_map_or}
use Rattle.std.specs.Ordering.{nat_cmp}
use Rattle.std.specs.Cmp.Lexicographic.{pointwise}
use Rattle.eb_bytes.specs.Text.{Text, has_bytes, norm}
use Rattle.eb_digest.specs.Digest.{IsDigest, digest_text}
use Rattle.eapi_tables.specs.Eapi.{all_eapis, eapi_text, has_key}
use Rattle.eapi_tables.specs.EclassName.{IsEclassName}
use Rattle.eapi_tables.specs.Key.{all_keys, key_name, key_place}
use Rattle.md5_cache.specs.Record.{AreByName, record_text}
use Rattle.eapi_tables.specs.declared.eapi.Eapi.{Eapi}
use Rattle.eapi_tables.specs.declared.key.Key.{Key}
use Rattle.eapi_tables.specs.declared.key.Key.TheVariants as key

-- what an entry says of an ebuild: its values in the order of the lines, its eclasses with their MD5s, and its own MD5
pub record EntryContent : Type 0 where
  pub values : List (Key × Text)
  pub eclasses : List (Text × Text)
  pub md5 : Text

-- ---- the keys

-- the keys that stand in every entry
abbrev pub always_keys : List Key
always_keys = key.DefinedPhases ∷ key.Eapi ∷ key.Slot ∷ []

-- ---- the values

-- the key's value, empty where there is none
abbrev pub value_of : Key → List (Key × Text) → Text
value_of k values = option_map_or (λ value. value.1) (find (λ value. key_place value.0 == key_place k) values) []

-- the words of the key's value, joined by one blank
abbrev pub words_of : Key → List (Key × Text) → Text
words_of k values = norm (value_of k values)

-- whether each key that always stands has words
abbrev pub is_complete : List (Key × Text) → Bool
is_complete values = list_all (λ k. has_bytes (words_of k values)) always_keys

-- the EAPI of this text
abbrev pub named_eapi : Text → Option Eapi
named_eapi text = find (λ eapi. pointwise nat_eq (eapi_text eapi) text) all_eapis

-- the EAPI that the values name
abbrev pub eapi_of : List (Key × Text) → Option Eapi
eapi_of values = named_eapi (words_of key.Eapi values)

-- whether the values' EAPI has the key
abbrev pub is_known : List (Key × Text) → Key → Bool
is_known values k = option_map_or (λ eapi. has_key eapi k) (eapi_of values) false

-- the key with its words, where the EAPI has the key and there are words
abbrev pub kept_value : List (Key × Text) → Key → Option (Key × Text)
kept_value values k = if is_known values k && has_bytes (words_of k values) then Some (k, words_of k values) else None

-- the values that an entry keeps, in the order of its lines
abbrev pub kept_values : List (Key × Text) → List (Key × Text)
kept_values values = filter_map (kept_value values) all_keys

-- ---- the rules that each entry keeps

abbrev pub HasNoZero : Text → Type 0
HasNoZero text = All (λ b. b ≢ 0) text

pub record IsEntry (entry : EntryContent) : Type 0 where
  pub eapi : IsSome (eapi_of entry.values)
  pub complete : IsTrue (is_complete entry.values)
  pub ordered : IsStrictlySortedBy nat_cmp (map (λ value. key_place value.0) entry.values)
  pub known : All (λ value. IsTrue (is_known entry.values value.0)) entry.values
  pub normal : All (λ value. norm value.1 ≡ value.1) entry.values
  pub full : All (λ value. IsTrue (has_bytes value.1)) entry.values
  pub no_zero : All (λ value. HasNoZero value.1) entry.values
  pub names : All (λ eclass. IsEclassName eclass.0) entry.eclasses
  pub by_name : AreByName entry.eclasses
  pub digests : All (λ eclass. IsDigest eclass.1) entry.eclasses
  pub digest : IsDigest entry.md5

-- ---- the text

-- a line of the text, with its newline
abbrev pub line : Text → Text → Text
line name value = name ++ 61 ∷ value ++ 10 ∷ []

abbrev pub value_line : Key × Text → Text
value_line value = line (key_name value.0) value.1

-- the line of the eclasses, which stands only where there are some
abbrev pub eclasses_line : List (Text × Text) → Text
eclasses_line [] = []
eclasses_line (eclass ∷ eclasses) = line (codes "_eclasses_") (record_text (eclass ∷ eclasses))

-- the lines of an entry
abbrev pub entry_text : EntryContent → Text
entry_text entry = flat_map value_line entry.values ++ eclasses_line entry.eclasses ++ line (codes "_md5_") (digest_text entry.md5)

-- ---- one text, one entry

-- the text is that of no other entry
abbrev pub IsTextOfOne : Text → EntryContent → Type 0
IsTextOfOne text entry = (other : EntryContent) → IsEntry other → entry_text other ≡ text → other ≡ entry

-- no text that is cut off this one's end leaves the text of an entry, but the empty one
abbrev pub HasNoEntryBefore : Text → Type 0
HasNoEntryBefore text = (other : EntryContent) (rest : Text) → IsEntry other → entry_text other ++ rest ≡ text → rest ≡ []

-- the text is that of no entry
abbrev pub IsTextOfNone : Text → Type 0
IsTextOfNone text = (other : EntryContent) → IsEntry other → entry_text other ≢ text
