-- Faults (own): their texts, and the one that a refusal of the variables is.
use Rattle.std.specs.Prelude.{ℕ, List, [], ◌∷◌, ◌++◌, codes, decimal, if◌then◌else◌}
use Rattle.eb_bytes.specs.Text.{Text, has_bytes, norm}
use Rattle.shell_vars.specs.declared.error.VarErr.{VarErr}
use Rattle.shell_vars.specs.declared.error.VarErr.TheVariants as refusal
use Rattle.shell_state.specs.declared.fault.Fault.{Fault}
use Rattle.shell_state.specs.declared.fault.Fault.TheVariants as f

-- a field of a fault: a text, or the number of a line or of a word
pub data Field : Type 0 where
  Words : Text → Field
  Number : ℕ → Field

-- the name of each fault, and its fields in the order in which they are printed
abbrev pub row : Fault → Text × List Field
row (f.NameBad kind) = (codes "NameBad", Words kind ∷ [])
row f.FileTooLarge = (codes "FileTooLarge", [])
row (f.EapiUnknown text) = (codes "EapiUnknown", Words text ∷ [])
row (f.SyntaxRefused line) = (codes "SyntaxRefused", Number line ∷ [])
row (f.SyntaxDeep line) = (codes "SyntaxDeep", Number line ∷ [])
row f.StepsSpent = (codes "StepsSpent", [])
row f.DepthLimit = (codes "DepthLimit", [])
row f.ValueSize = (codes "ValueSize", [])
row f.TotalSize = (codes "TotalSize", [])
row f.BraceCount = (codes "BraceCount", [])
row f.PatternDeep = (codes "PatternDeep", [])
row (f.CommandRefused name) = (codes "CommandRefused", Words name ∷ [])
row (f.Unsupported what) = (codes "Unsupported", Words what ∷ [])
row (f.RedirectRefused target) = (codes "RedirectRefused", Words target ∷ [])
row f.RegexRefused = (codes "RegexRefused", [])
row (f.FileTest op) = (codes "FileTest", Words op ∷ [])
row (f.BadTest text) = (codes "BadTest", Words text ∷ [])
row (f.BadUse command) = (codes "BadUse", Words command ∷ [])
row (f.BadOption command option) = (codes "BadOption", Words command ∷ Words option ∷ [])
row (f.BadName text) = (codes "BadName", Words text ∷ [])
row (f.LocalOutside name) = (codes "LocalOutside", Words name ∷ [])
row (f.Readonly name) = (codes "Readonly", Words name ∷ [])
row (f.BadSubscript name) = (codes "BadSubscript", Words name ∷ [])
row (f.BadSubstitution name) = (codes "BadSubstitution", Words name ∷ [])
row (f.UnsetParameter name message) = (codes "UnsetParameter", Words name ∷ Words message ∷ [])
row (f.GlobFailed text) = (codes "GlobFailed", Words text ∷ [])
row (f.ArithSyntax text) = (codes "ArithSyntax", Words text ∷ [])
row (f.ArithDivZero text) = (codes "ArithDivZero", Words text ∷ [])
row (f.ArithNegative text) = (codes "ArithNegative", Words text ∷ [])
row (f.ArithNesting text) = (codes "ArithNesting", Words text ∷ [])
row (f.EvalRefused line) = (codes "EvalRefused", Number line ∷ [])
row (f.EvalDeep line) = (codes "EvalDeep", Number line ∷ [])
row (f.EclassBadName name) = (codes "EclassBadName", Words name ∷ [])
row (f.EclassMissing name) = (codes "EclassMissing", Words name ∷ [])
row (f.EclassTooLarge name) = (codes "EclassTooLarge", Words name ∷ [])
row (f.EclassRefused name line) = (codes "EclassRefused", Words name ∷ Number line ∷ [])
row (f.EclassDeep name line) = (codes "EclassDeep", Words name ∷ Number line ∷ [])
row f.ExportOutside = (codes "ExportOutside", [])
row (f.ExportMissing function) = (codes "ExportMissing", Words function ∷ [])
row (f.Die message) = (codes "Die", Words message ∷ [])
row (f.PhaseOnly name) = (codes "PhaseOnly", Words name ∷ [])
row (f.BadRange text) = (codes "BadRange", Words text ∷ [])
row (f.BadVersion text) = (codes "BadVersion", Words text ∷ [])
row (f.BadOperator text) = (codes "BadOperator", Words text ∷ [])
row (f.EapiMismatch parsed found) = (codes "EapiMismatch", Words parsed ∷ Words found ∷ [])
row f.SlotMissing = (codes "SlotMissing", [])
row (f.DepBad key word) = (codes "DepBad", Words key ∷ Number word ∷ [])
row f.EntryTooLarge = (codes "EntryTooLarge", [])

-- a text as a line shows it: its words joined by one blank, or a hyphen where it has none
abbrev pub shown : Text → Text
shown t = if has_bytes (norm t) then norm t else codes "-"

abbrev pub field_text : Field → Text
field_text (Words t) = shown t
field_text (Number n) = decimal n

-- each field after one blank
abbrev pub fields_text : List Field → Text
fields_text [] = []
fields_text (f ∷ fs) = (32 ∷ field_text f) ++ fields_text fs

-- a fault's name, then each field after one blank
abbrev pub fault_text : Fault → Text
fault_text fault = (row fault).0 ++ fields_text (row fault).1

-- the fault that a refusal to change the variable of this name is; the variables' definitions never give out of memory,
-- so the last line is never met
abbrev pub variable_fault : Text → VarErr → Fault
variable_fault name refusal.LocalOutside = f.LocalOutside name
variable_fault name refusal.Readonly = f.Readonly name
variable_fault name refusal.BadSubscript = f.BadSubscript name
variable_fault name refusal.ValueSize = f.ValueSize
variable_fault name refusal.TotalSize = f.TotalSize
variable_fault name refusal.Memory = f.TotalSize
