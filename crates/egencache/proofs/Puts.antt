-- What a put leaves, and how a program ends that puts.
use Rattle.std.proofs.Common.{◌≡◌, ◌≢◌, ℕ, ◌+◌, ◌≤◌, true, false, not, ◌&&◌, refl, arith, List, ◌++◌, length, Option, Some, None, Result, Ok, Err, inl, inr, Bool, sym, ap, subst, ◌∙◌, append-nil}
use Rattle.std.specs.FinMap as map
use Rattle.std.proofs.Math.Seq.{take-length}
use Rattle.eb_bytes.specs.Text.{Text}
use Rattle.eb_files.specs.declared.sink.SinkErr.{SinkErr}
use Rattle.eb_files.specs.declared.sink.SinkErr.TheVariants.{Failed, Memory}
use Rattle.eb_files.specs.Causes.{HasCause, Rose, raised}
use Rattle.eb_files.specs.Files.{Files}
use Rattle.eb_files.specs.Written.{Appended, is_put_failed}
use Rattle.egencache.specs.declared.status.Status.{Status}
use Rattle.egencache.specs.declared.status.Status.TheVariants as status
use Rattle.egencache.specs.declared.report.Report.{Report}
use Rattle.egencache.specs.declared.report.ReportErr.{ReportErr}
use Rattle.egencache.specs.declared.report.ReportErr.TheVariants as why
use Rattle.egencache.specs.Answered.{EndsPut, IsPutStatus, IsReportStatus, PutsAllOrNothing, PutsPrefix, SinkCause, TellsReport, is_file_fault, is_report_fault}
use Rattle.egencache.specs.declared.source.Outcome.{Outcome}
use Rattle.egencache.specs.declared.source.Outcome.TheVariants as outcome
use Rattle.egencache.specs.Report.{Answer, answer_to, file_answer, outcome_status, request_answer, usage_answer}
use Rattle.egencache.specs.Request.{Request, request_of}

-- nothing is a prefix
pub PutsPrefix-nothing : (text held : Text) (after : Option Text) → after ≡ Some held → PutsPrefix text held after
PutsPrefix-nothing text held after e = (0, e ∙ ap (λ (t : Text). Some t) (sym (append-nil held)))

pub PutsPrefix-all : (text held : Text) (after : Option Text) → after ≡ Some (held ++ text) → PutsPrefix text held after
PutsPrefix-all text held after e = (length text, e ∙ ap (λ (t : Text). Some (held ++ t)) (sym (take-length text)))

pub PutsPrefix-appended : (r : Result (Unit {0}) SinkErr) (text held : Text) (after : Option Text) → Appended r held text after → PutsPrefix text held after
PutsPrefix-appended (Ok done) text held after h = PutsPrefix-all text held after h
PutsPrefix-appended (Err Failed) text held after h = h
PutsPrefix-appended (Err Memory) text held after h = PutsPrefix-nothing text held after h

rose : (faults now : ℕ) → now ≡ raised faults → Rose faults now
rose faults now e = omega (arith, e)

pub PutsAllOrNothing-appended : (r : Result (Unit {0}) SinkErr) (text held : Text) (after : Option Text) (faults now : ℕ) (may then : Bool) → Appended r held text after → HasCause (is_put_failed r) faults now may then → (Rose faults now → ⊥) → PutsAllOrNothing text held after
PutsAllOrNothing-appended (Ok done) text held after faults now may then h cause calm = inl h
PutsAllOrNothing-appended (Err Failed) text held after faults now may then h cause calm = absurd (calm (rose faults now cause.faults))
PutsAllOrNothing-appended (Err Memory) text held after faults now may then h cause calm = inr h

pub IsPutStatus-report : (s : Status) → IsReportStatus s → IsPutStatus s
IsPutStatus-report status.Done h = tt
IsPutStatus-report status.SomeFailed h = tt
IsPutStatus-report status.RepoBad h = tt
IsPutStatus-report status.Usage h = absurd h
IsPutStatus-report status.FileFault h = absurd h
IsPutStatus-report status.ReportFault h = absurd h
IsPutStatus-report status.Memory h = absurd h

-- a put does not end with a file fault
pub not_file_fault : (r s : Status) → IsPutStatus s → EndsPut r s → is_file_fault r ≡ false
not_file_fault status.FileFault s h ends = absurd (let P : Status → Type 0 = λ s. IsPutStatus s in subst P (sym ends) h)
not_file_fault status.Done s h ends = refl
not_file_fault status.SomeFailed s h ends = refl
not_file_fault status.Usage s h ends = refl
not_file_fault status.RepoBad s h ends = refl
not_file_fault status.ReportFault s h ends = refl
not_file_fault status.Memory s h ends = refl

pub not_report_fault : (s : Status) → IsPutStatus s → is_report_fault s ≡ false
not_report_fault status.FileFault h = refl
not_report_fault status.Done h = refl
not_report_fault status.SomeFailed h = refl
not_report_fault status.Usage h = refl
not_report_fault status.RepoBad h = refl
not_report_fault status.ReportFault h = absurd h
not_report_fault status.Memory h = refl

pub file_fault_never : (r : Status) → is_file_fault r ≡ false → r ≢ status.FileFault
file_fault_never r none = λ e. let never : true ≡ false = sym (ap is_file_fault e) ∙ none in absurd (cc)

-- the answer to invalid arguments, and to a request
pub answer_to-usage : (words : List Text) (files : Files) → None ≡ request_of words → answer_to words files ≡ usage_answer
answer_to-usage words files e = ap (λ (r : Option Request). request_answer r files) (sym e)

pub answer_to-request : (words : List Text) (files : Files) (request : Request) → Some request ≡ request_of words → answer_to words files ≡ file_answer request (map.get files request.path)
answer_to-request words files request e = ap (λ (r : Option Request). request_answer r files) (sym e)

-- what is known where there is no report
pub TellsReport-memory : (r : Result Report ReportErr) (answer : Answer) (before after : ℕ) → r ≡ Err why.Memory → TellsReport r answer before after → (before ≤ after) × (after ≤ before + answer.steps)
TellsReport-memory r answer before after e h = let P : Result Report ReportErr → Type 0 = λ r. TellsReport r answer before after in subst P e h

pub TellsReport-fault : (r : Result Report ReportErr) (answer : Answer) (before after : ℕ) → r ≡ Err why.FileFault → TellsReport r answer before after → after ≡ before
TellsReport-fault r answer before after e h = let P : Result Report ReportErr → Type 0 = λ r. TellsReport r answer before after in subst P e h

-- ---- which fault a program ends with

-- a call that did not fail leaves all as it was
pub HasCause-none : (count : ℕ) (may : Bool) → HasCause false count count may may
HasCause-none count may = record { faults = refl; quiet = λ m. (refl, m) }

pub HasCause-same : {v w : Bool} {before after : ℕ} {may then : Bool} → v ≡ w → HasCause v before after may then → HasCause w before after may then
HasCause-same {v} {w} {before} {after} {may} {then} e cause = let P : Bool → Type 0 = λ b. HasCause b before after may then in subst P e cause

-- where the program ends with no file fault, the sink failed exactly where it ends with a report fault
pub SinkCause-put : (s : Status) (before after : ℕ) (may then : Bool) → is_file_fault s ≡ false → HasCause (is_report_fault s) before after may then → SinkCause s before after may then
SinkCause-put s before after may then none cause = record { failed = is_report_fault s; cause = cause; ends = sym (and_not (is_report_fault s) (is_file_fault s) none) }
  where
    and_not : (v w : Bool) → w ≡ false → (v && not w) ≡ v
    and_not true w h = rw h refl
    and_not false w h = refl

pub SinkCause-none : (s : Status) (count : ℕ) (may : Bool) → is_report_fault s ≡ false → SinkCause s count count may may
SinkCause-none s count may none = record { failed = false; cause = HasCause-none count may; ends = none }

-- with a file fault, the put of its line may have failed or not
pub SinkCause-file_fault : (failed : Bool) (before after : ℕ) (may then : Bool) → HasCause failed before after may then → SinkCause status.FileFault before after may then
SinkCause-file_fault failed before after may then cause = record { failed = failed; cause = cause; ends = never failed }
  where
    never : (v : Bool) → false ≡ (v && false)
    never true = refl
    never false = refl

-- an ebuild's outcome is reported
pub IsReportStatus-outcome : (o : Outcome) → IsReportStatus (outcome_status o)
IsReportStatus-outcome (outcome.Entry entry) = tt
IsReportStatus-outcome (outcome.Fault fault) = tt
