-- The texts of faults.
use Rattle.std.specs.Prelude.{◌∷◌, ◌++◌, codes, decimal, if◌then◌else◌}
use Rattle.eb_bytes.specs.Text.{Text, has_bytes, norm}
use Rattle.ebuild_names.specs.Path.{kind_name}
use Rattle.egencache.specs.declared.fault.Fault.{Fault}
use Rattle.egencache.specs.declared.fault.Fault.TheVariants.{EapiMismatch, EapiUnknown, FormNotYet, NameBad, SlotMissing}

-- a text as a report shows it: its words joined by one blank, or a hyphen where it has none
abbrev pub shown : Text → Text
shown text = if has_bytes (norm text) then norm text else codes "-"

abbrev pub mismatch_text : (parsed found : Text) → Text
mismatch_text parsed found = codes "EapiMismatch " ++ shown parsed ++ 32 ∷ shown found

-- a fault's name, and each of its fields after one blank
abbrev pub fault_text : Fault → Text
fault_text (NameBad kind) = codes "NameBad " ++ kind_name kind
fault_text (FormNotYet line) = codes "FormNotYet " ++ decimal line
fault_text (EapiUnknown text) = codes "EapiUnknown " ++ shown text
fault_text (EapiMismatch parsed found) = mismatch_text parsed found
fault_text SlotMissing = codes "SlotMissing"
