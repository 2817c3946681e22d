-- The EAPIs, and which keys each of them has and accumulates (Package Manager Specification).
use Rattle.std.specs.Prelude.{ℕ, ◌+◌, Bool, false, nat_le, List, [], ◌∷◌, Option, Some, None}
use Rattle.std.specs.Option.{option_map_or}
use Rattle.eb_bytes.specs.Text.{Text}
use Rattle.eapi_tables.specs.declared.eapi.Eapi.{Eapi}
use Rattle.eapi_tables.specs.declared.eapi.Eapi.TheVariants.{E0, E1, E2, E3, E4, E5, E6, E7, E8}
use Rattle.eapi_tables.specs.declared.key.Key.{Key}
use Rattle.eapi_tables.specs.declared.key.Key.TheVariants.{Bdepend, Depend, Idepend, Iuse, Pdepend, Properties, Rdepend, RequiredUse, Restrict}

-- the EAPI's number
abbrev pub eapi_number : Eapi → ℕ
eapi_number E0 = 0
eapi_number E1 = 1
eapi_number E2 = 2
eapi_number E3 = 3
eapi_number E4 = 4
eapi_number E5 = 5
eapi_number E6 = 6
eapi_number E7 = 7
eapi_number E8 = 8

-- the EAPI as an ebuild writes it, its one digit
abbrev pub eapi_text : Eapi → Text
eapi_text e = (48 + eapi_number e) ∷ []

-- every EAPI, the oldest first
abbrev pub all_eapis : List Eapi
all_eapis = E0 ∷ E1 ∷ E2 ∷ E3 ∷ E4 ∷ E5 ∷ E6 ∷ E7 ∷ E8 ∷ []

-- the first EAPI that has the key
abbrev pub since_eapi : Key → ℕ
since_eapi RequiredUse = 4
since_eapi Bdepend = 7
since_eapi Idepend = 8
since_eapi _ = 0

-- whether the EAPI has the key
abbrev pub has_key : Eapi → Key → Bool
has_key e k = nat_le (since_eapi k) (eapi_number e)

-- the first EAPI in which the key's values in eclasses add to the ebuild's, if there is one
abbrev pub accumulates_since : Key → Option ℕ
accumulates_since Iuse = Some 0
accumulates_since Depend = Some 0
accumulates_since Rdepend = Some 0
accumulates_since Pdepend = Some 0
accumulates_since RequiredUse = Some 4
accumulates_since Bdepend = Some 7
accumulates_since Idepend = Some 8
accumulates_since Properties = Some 8
accumulates_since Restrict = Some 8
accumulates_since _ = None

-- whether the key's values in eclasses add to the ebuild's in the EAPI
abbrev pub accumulates : Eapi → Key → Bool
accumulates e k = option_map_or (λ since. nat_le since (eapi_number e)) (accumulates_since k) false
