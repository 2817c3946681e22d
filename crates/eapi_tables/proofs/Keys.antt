-- Each key stands in the list of all of them.
use Rattle.std.proofs.Common.{◌≡◌, ◌<◌, get_or, refl, lit<}
use Rattle.eapi_tables.specs.Key.{all_keys, key_place}
use Rattle.eapi_tables.specs.declared.key.Key.{Key}
use Rattle.eapi_tables.specs.declared.key.Key.TheVariants.{Bdepend, DefinedPhases, Depend, Description, Eapi, Homepage, Idepend, Inherit, Iuse, Keywords, License, Pdepend, Properties, Rdepend, RequiredUse, Restrict, Slot, SrcUri}

pub place-below : (k : Key) → key_place k < 18
place-below Bdepend = lit< tt
place-below DefinedPhases = lit< tt
place-below Depend = lit< tt
place-below Description = lit< tt
place-below Eapi = lit< tt
place-below Homepage = lit< tt
place-below Idepend = lit< tt
place-below Inherit = lit< tt
place-below Iuse = lit< tt
place-below Keywords = lit< tt
place-below License = lit< tt
place-below Pdepend = lit< tt
place-below Properties = lit< tt
place-below Rdepend = lit< tt
place-below RequiredUse = lit< tt
place-below Restrict = lit< tt
place-below Slot = lit< tt
place-below SrcUri = lit< tt

pub get_or-place : (k : Key) → get_or all_keys (key_place k) Slot ≡ k
get_or-place Bdepend = refl
get_or-place DefinedPhases = refl
get_or-place Depend = refl
get_or-place Description = refl
get_or-place Eapi = refl
get_or-place Homepage = refl
get_or-place Idepend = refl
get_or-place Inherit = refl
get_or-place Iuse = refl
get_or-place Keywords = refl
get_or-place License = refl
get_or-place Pdepend = refl
get_or-place Properties = refl
get_or-place Rdepend = refl
get_or-place RequiredUse = refl
get_or-place Restrict = refl
get_or-place Slot = refl
get_or-place SrcUri = refl
