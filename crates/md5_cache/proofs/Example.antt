-- The definitions compute: a small entry, written out.
use Rattle.std.proofs.Common.{◌≡◌, List, [], ◌∷◌, ◌++◌, refl}
use Rattle.std.specs.Prelude.{codes}
use Rattle.eb_bytes.specs.Text.{Text}
use Rattle.eb_digest.specs.Digest.{digest_text}
use Rattle.md5_cache.specs.Entry.{entry_text, kept_values}
use Rattle.eapi_tables.specs.declared.key.Key.{Key}
use Rattle.eapi_tables.specs.declared.key.Key.TheVariants as key

-- in another order, with blanks to drop, a key without words, and one that EAPI 7 does not have
abbrev given : List (Key × Text)
given =
    (key.Slot, codes "0") ∷ (key.Idepend, codes "b") ∷ (key.Description, codes " a  word ") ∷ (key.Eapi, codes "7")
    ∷ (key.DefinedPhases, codes "-") ∷ (key.Homepage, codes " ") ∷ []

-- the lines of the text, each with its newline
pub given-text : (md5 : Text) → entry_text (record { values = kept_values given; eclasses = []; md5 = md5 })
    ≡ codes "DEFINED_PHASES=-" ++ 10 ∷ codes "DESCRIPTION=a word" ++ 10 ∷ codes "EAPI=7" ++ 10 ∷ codes "SLOT=0" ++ 10
    ∷ codes "_md5_=" ++ digest_text md5 ++ 10 ∷ []
given-text md5 = refl
