-- The definitions compute: the steps of small texts, and arguments that no program is given, written out.
use Rattle.std.proofs.Common.{◌≡◌, [], ◌∷◌, ◌++◌, None, refl}
use Rattle.std.specs.Prelude.{codes}
use Rattle.eb_bytes.specs.Text.{Text}
use Rattle.egencache.specs.Meaning.{sourced}
use Rattle.egencache.specs.Request.{request_of}

-- `EAPI=7`, a blank and `IUSE="x"`, and `SLOT=0/2`, with no newline after it
abbrev plain : Text
plain = codes "EAPI=7" ++ 10 ∷ codes " IUSE=" ++ 34 ∷ 120 ∷ 34 ∷ 10 ∷ codes "SLOT=0/2"

-- one step for a text of less than 64 bytes, and one for each assignment
pub plain-steps : (sourced plain).steps ≡ 4
plain-steps = refl

-- a value of 63 bytes
abbrev long : Text
long = codes "A=123456789-123456789-123456789-123456789-123456789-123456789-123"

-- two steps for a text of 65 bytes, and two for its value
pub long-steps : (sourced long).steps ≡ 4
long-steps = refl

-- none where a line is not plain
pub refused-steps : (sourced (codes "SLOT=0" ++ 10 ∷ codes "fi")).steps ≡ 0
refused-steps = refl

-- an argument that holds a byte 0 is invalid; no program is given one
pub zero_in_repository : request_of (codes "print" ∷ (47 ∷ 0 ∷ codes "r") ∷ codes "c/a/a-1.ebuild" ∷ []) ≡ None
zero_in_repository = refl

pub zero_in_place : request_of (codes "print" ∷ codes "/r" ∷ (codes "c/a" ++ 0 ∷ codes "/a-1.ebuild") ∷ []) ≡ None
zero_in_place = refl
