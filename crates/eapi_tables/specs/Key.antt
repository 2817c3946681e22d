-- The keys of a cache entry.
use Rattle.std.specs.Prelude.{ℕ, List, [], ◌∷◌, codes}
use Rattle.eb_bytes.specs.Text.{Text}
use Rattle.eapi_tables.specs.declared.key.Key.{Key}
use Rattle.eapi_tables.specs.declared.key.Key.TheVariants.{Bdepend, DefinedPhases, Depend, Description, Eapi, Homepage, Idepend, Inherit, Iuse, Keywords, License, Pdepend, Properties, Rdepend, RequiredUse, Restrict, Slot, SrcUri}

-- the key as an entry writes it
abbrev pub key_name : Key → Text
key_name Bdepend = codes "BDEPEND"
key_name DefinedPhases = codes "DEFINED_PHASES"
key_name Depend = codes "DEPEND"
key_name Description = codes "DESCRIPTION"
key_name Eapi = codes "EAPI"
key_name Homepage = codes "HOMEPAGE"
key_name Idepend = codes "IDEPEND"
key_name Inherit = codes "INHERIT"
key_name Iuse = codes "IUSE"
key_name Keywords = codes "KEYWORDS"
key_name License = codes "LICENSE"
key_name Pdepend = codes "PDEPEND"
key_name Properties = codes "PROPERTIES"
key_name Rdepend = codes "RDEPEND"
key_name RequiredUse = codes "REQUIRED_USE"
key_name Restrict = codes "RESTRICT"
key_name Slot = codes "SLOT"
key_name SrcUri = codes "SRC_URI"

-- every key, in the order of an entry's lines
abbrev pub all_keys : List Key
all_keys =
    Bdepend ∷ DefinedPhases ∷ Depend ∷ Description ∷ Eapi ∷ Homepage ∷ Idepend ∷ Inherit ∷ Iuse ∷ Keywords ∷ License ∷ Pdepend
    ∷ Properties ∷ Rdepend ∷ RequiredUse ∷ Restrict ∷ Slot ∷ SrcUri ∷ []

-- the key's place in that order
abbrev pub key_place : Key → ℕ
key_place Bdepend = 0
key_place DefinedPhases = 1
key_place Depend = 2
key_place Description = 3
key_place Eapi = 4
key_place Homepage = 5
key_place Idepend = 6
key_place Inherit = 7
key_place Iuse = 8
key_place Keywords = 9
key_place License = 10
key_place Pdepend = 11
key_place Properties = 12
key_place Rdepend = 13
key_place RequiredUse = 14
key_place Restrict = 15
key_place Slot = 16
key_place SrcUri = 17
