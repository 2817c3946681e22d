-- Each phase stands in the list of all of them.
use Rattle.std.proofs.Common.{◌≡◌, ℕ, ◌<◌, List, [], ◌∷◌, get_or, refl, lit<}
use Rattle.eapi_tables.specs.declared.phase.Phase.{Phase}
use Rattle.eapi_tables.specs.declared.phase.Phase.TheVariants.{Compile, Config, Configure, Info, Install, Nofetch, Postinst, Postrm, Preinst, Prepare, Prerm, Pretend, Setup, Test, Unpack}

-- every phase, in the order of the list that the code has
abbrev pub all_phases : List Phase
all_phases =
    Compile ∷ Config ∷ Configure ∷ Info ∷ Install ∷ Nofetch ∷ Postinst ∷ Postrm ∷ Preinst ∷ Prepare ∷ Prerm ∷ Pretend ∷ Setup ∷ Test
    ∷ Unpack ∷ []

-- the phase's place among them
abbrev pub place : Phase → ℕ
place Compile = 0
place Config = 1
place Configure = 2
place Info = 3
place Install = 4
place Nofetch = 5
place Postinst = 6
place Postrm = 7
place Preinst = 8
place Prepare = 9
place Prerm = 10
place Pretend = 11
place Setup = 12
place Test = 13
place Unpack = 14

pub place-below : (p : Phase) → place p < 15
place-below Compile = lit< tt
place-below Config = lit< tt
place-below Configure = lit< tt
place-below Info = lit< tt
place-below Install = lit< tt
place-below Nofetch = lit< tt
place-below Postinst = lit< tt
place-below Postrm = lit< tt
place-below Preinst = lit< tt
place-below Prepare = lit< tt
place-below Prerm = lit< tt
place-below Pretend = lit< tt
place-below Setup = lit< tt
place-below Test = lit< tt
place-below Unpack = lit< tt

pub get_or-place : (p : Phase) → get_or all_phases (place p) Setup ≡ p
get_or-place Compile = refl
get_or-place Config = refl
get_or-place Configure = refl
get_or-place Info = refl
get_or-place Install = refl
get_or-place Nofetch = refl
get_or-place Postinst = refl
get_or-place Postrm = refl
get_or-place Preinst = refl
get_or-place Prepare = refl
get_or-place Prerm = refl
get_or-place Pretend = refl
get_or-place Setup = refl
get_or-place Test = refl
get_or-place Unpack = refl
