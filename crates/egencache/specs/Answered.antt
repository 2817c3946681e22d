-- What the program's calls tell of its answer.
use Rattle.std.specs.Prelude.{◌≡◌, ℕ, ◌+◌, ◌≤◌, Bool, true, false, not, ◌&&◌, ◌++◌, take, ◌⊎◌, Option, Some, Result, Ok, Err}
use Rattle.eb_bytes.specs.Text.{Text}
use Rattle.eb_files.specs.Causes.{HasCause}
use Rattle.egencache.specs.declared.report.Report.{Report}
use Rattle.egencache.specs.declared.report.ReportErr.{ReportErr}
use Rattle.egencache.specs.declared.report.ReportErr.TheVariants as why
use Rattle.egencache.specs.declared.status.Status.{Status}
use Rattle.egencache.specs.declared.status.Status.TheVariants.{Done, SomeFailed, Usage, RepoBad, FileFault, ReportFault, Memory}
use Rattle.egencache.specs.Report.{Answer, file_fault_text}

-- a report is the answer's status and text, and all of its steps were taken; without one at most these were
abbrev pub TellsReport : Result Report ReportErr → Answer → ℕ → ℕ → Type 0
TellsReport (Ok report) answer before after = (report.status ≡ answer.status) × (report.text ≡ answer.text) × (after ≡ before + answer.steps)
TellsReport (Err why.FileFault) answer before after = after ≡ before
TellsReport (Err why.Memory) answer before after = (before ≤ after) × (after ≤ before + answer.steps)

-- whether there is no report since a file could not be read
abbrev pub is_unread : {T : Type 0} → Result T ReportErr → Bool
is_unread (Ok report) = false
is_unread (Err why.FileFault) = true
is_unread (Err why.Memory) = false

abbrev pub is_file_fault : Status → Bool
is_file_fault FileFault = true
is_file_fault status = false

abbrev pub is_report_fault : Status → Bool
is_report_fault ReportFault = true
is_report_fault status = false

-- what the program does to the sink's count of faults: the sink failed exactly where the program ends with
-- ReportFault, or it may have failed too after a file could not be read
pub record SinkCause (status : Status) (before after : ℕ) (may then : Bool) : Type 0 where
  pub failed : Bool
  pub cause : HasCause failed before after may then
  pub ends : is_report_fault status ≡ (failed && not (is_file_fault status))

-- some first bytes of the text were put
abbrev pub PutsPrefix : Text → Text → Option Text → Type 0
PutsPrefix text held after = (k : ℕ) × (after ≡ Some (held ++ take k text))

-- a program that ends with one of the first four statuses ends with the answer's, and has taken all of its steps; it
-- has taken them too where the output failed, and none where a file could not be read
abbrev pub Answers : Status → Answer → ℕ → ℕ → Type 0
Answers FileFault answer before after = after ≡ before
Answers ReportFault answer before after = after ≡ before + answer.steps
Answers Memory answer before after = (before ≤ after) × (after ≤ before + answer.steps)
Answers status answer before after = (status ≡ answer.status) × (after ≡ before + answer.steps)

-- all of the text was put, or nothing
abbrev pub PutsAllOrNothing : Text → Text → Option Text → Type 0
PutsAllOrNothing text held after = (after ≡ Some (held ++ text)) ⊎ (after ≡ Some held)

-- how the program ends where the arguments are invalid
abbrev pub EndsUsage : Status → Type 0
EndsUsage Usage = Unit {0}
EndsUsage ReportFault = Unit {0}
EndsUsage Memory = Unit {0}
EndsUsage _ = ⊥

-- a status with which a text is put
abbrev pub IsPutStatus : Status → Type 0
IsPutStatus FileFault = ⊥
IsPutStatus ReportFault = ⊥
IsPutStatus Memory = ⊥
IsPutStatus _ = Unit {0}

-- a status of a report on an ebuild
abbrev pub IsReportStatus : Status → Type 0
IsReportStatus Done = Unit {0}
IsReportStatus SomeFailed = Unit {0}
IsReportStatus RepoBad = Unit {0}
IsReportStatus _ = ⊥

-- how a put ends that is to end so
abbrev pub EndsPut : Status → Status → Type 0
EndsPut ReportFault wanted = Unit {0}
EndsPut Memory wanted = Unit {0}
EndsPut status wanted = status ≡ wanted

-- what was put of the answer's text, by how the program ended: all of it with one of the first four statuses; some
-- first bytes of the line of a file fault where a file could not be read; else some first bytes of the text
abbrev pub Puts : Status → Text → Text → Option Text → Type 0
Puts FileFault text held after = PutsPrefix file_fault_text held after
Puts ReportFault text held after = PutsPrefix text held after
Puts Memory text held after = PutsPrefix text held after
Puts status text held after = after ≡ Some (held ++ text)
