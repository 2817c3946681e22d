-- The laws of names and paths.
use Rattle.std.specs.Prelude.{◌≡◌, ◌⊎◌, ◌∷◌, ◌++◌, codes}
use Rattle.eb_bytes.specs.Text.{Text}
use Rattle.version_funcs.specs.Version.{Version, IsWellFormed, spelling}
use Rattle.ebuild_names.specs.declared.path.EbuildPath.{EbuildPath}
use Rattle.ebuild_names.specs.declared.path.Names.{Names}
use Rattle.ebuild_names.specs.declared.path.NameKind.{NameKind}
use Rattle.ebuild_names.specs.Path.{GivesNames, IsBad, with_version}

-- the name of the file is PF and `.ebuild`
abbrev pub FileIsFullName : Type 0
FileIsFullName = (at : EbuildPath) (names : Names) → GivesNames at names → at.file ≡ names.pf ++ codes ".ebuild"

-- PF is PN, a hyphen and PVR
abbrev pub FullNameHasVersion : Type 0
FullNameHasVersion = (at : EbuildPath) (names : Names) → GivesNames at names → names.pf ≡ names.pn ++ 45 ∷ names.pvr

-- PF is P where PR is `r0`, or P, a hyphen and PR
abbrev pub FullNameHasRevision : Type 0
FullNameHasRevision =
    (at : EbuildPath) (names : Names) → GivesNames at names → ((names.pf ≡ names.p) × (names.pr ≡ codes "r0")) ⊎ (names.pf ≡ names.p ++ 45 ∷ names.pr)

-- a path gives the seven texts in one way
abbrev pub NamesAreOne : Type 0
NamesAreOne = (at : EbuildPath) (names others : Names) → GivesNames at names → GivesNames at others → names ≡ others

-- a path that gives texts has no bad part
abbrev pub NamedIsNotBad : Type 0
NamedIsNotBad = (at : EbuildPath) (names : Names) (kind : NameKind) → GivesNames at names → ¬ IsBad at kind

-- a path has one bad part at most
abbrev pub BadIsOne : Type 0
BadIsOne = (at : EbuildPath) (kind other : NameKind) → IsBad at kind → IsBad at other → kind ≡ other

-- PF says where PN ends: with one PF there is one package and one version
abbrev pub FullNameHasOneCut : Type 0
FullNameHasOneCut =
    (pn qn : Text) (v w : Version) → IsWellFormed v → IsWellFormed w → with_version pn (spelling v) ≡ with_version qn (spelling w) → (pn ≡ qn) × (v ≡ w)

-- two paths with one category and one PF are one path
abbrev pub FullNameHasOnePath : Type 0
FullNameHasOnePath =
    (at other : EbuildPath) (names others : Names) → GivesNames at names → GivesNames other others → names.category ≡ others.category → names.pf ≡ others.pf → at ≡ other
