-- The rules of entries hold of each value.
use Rattle.std.proofs.Common.{◌≡◌, Bool, false, Option, Some, sym, ap, ◌∙◌}
use Rattle.std.specs.List.{All}
use Rattle.std.specs.Option.{option_map_or}
use Rattle.eapi_tables.specs.Eapi.{has_key}
use Rattle.eapi_tables.specs.declared.eapi.Eapi.{Eapi}
use Rattle.eapi_tables.specs.declared.key.Key.{Key}
use Rattle.eb_bytes.specs.Text.{Text}
use Rattle.md5_cache.specs.Entry.{EntryContent, IsEntry, IsTextOfNone, eapi_of}
use Rattle.md5_cache.specs.Parts.{IsPlainText, KeepsRules}
use Rattle.md5_cache.proofs.Whole.{IsPlain-entry}

abbrev eapi_has : Key → Option Eapi → Bool
eapi_has k o = option_map_or (λ e. has_key e k) o false

-- each value of an entry keeps the rules of one
pub ruled : (e : EntryContent) (eapi : Eapi) → eapi_of e.values ≡ Some eapi → IsEntry e → All (KeepsRules eapi) e.values
ruled e eapi named h k d below = record {
  known = sym (ap (eapi_has _) named) ∙ h.known k d below;
  normal = h.normal k d below;
  full = h.full k d below;
  no_zero = h.no_zero k d below;
}

-- a text that is not what lines say is the text of no entry
pub not_plain-none : (text : Text) → ((entry : EntryContent) → IsPlainText text entry → ⊥) → IsTextOfNone text
not_plain-none text none other h same = none other (record { is = same; plain = IsPlain-entry other h })
