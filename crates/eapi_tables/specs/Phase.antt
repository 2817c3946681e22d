-- The phase functions, and which EAPI has them (Package Manager Specification, "List of phase functions").
use Rattle.std.specs.Prelude.{◌≡◌, ℕ, ◌≤◌, codes}
use Rattle.eb_bytes.specs.Text.{Text}
use Rattle.eapi_tables.specs.Eapi.{eapi_number}
use Rattle.eapi_tables.specs.declared.eapi.Eapi.{Eapi}
use Rattle.eapi_tables.specs.declared.phase.Phase.{Phase}
use Rattle.eapi_tables.specs.declared.phase.Phase.TheVariants.{Compile, Config, Configure, Info, Install, Nofetch, Postinst, Postrm, Preinst, Prepare, Prerm, Pretend, Setup, Test, Unpack}

-- the name of the phase's function
abbrev pub phase_name : Phase → Text
phase_name Compile = codes "src_compile"
phase_name Config = codes "pkg_config"
phase_name Configure = codes "src_configure"
phase_name Info = codes "pkg_info"
phase_name Install = codes "src_install"
phase_name Nofetch = codes "pkg_nofetch"
phase_name Postinst = codes "pkg_postinst"
phase_name Postrm = codes "pkg_postrm"
phase_name Preinst = codes "pkg_preinst"
phase_name Prepare = codes "src_prepare"
phase_name Prerm = codes "pkg_prerm"
phase_name Pretend = codes "pkg_pretend"
phase_name Setup = codes "pkg_setup"
phase_name Test = codes "src_test"
phase_name Unpack = codes "src_unpack"

-- the first EAPI that has the phase
abbrev pub phase_since : Phase → ℕ
phase_since Configure = 2
phase_since Prepare = 2
phase_since Pretend = 4
phase_since _ = 0

-- the name is that of a phase function of the EAPI
pub record IsPhase (eapi : Eapi) (name : Text) : Type 0 where
  pub phase : Phase
  pub named : name ≡ phase_name phase
  pub since : phase_since phase ≤ eapi_number eapi
