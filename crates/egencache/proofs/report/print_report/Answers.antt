use Rattle.std.proofs.Common.{◌≡◌, ℕ, ◌<◌, true, nat_lt, length, Option, Some, None, Err, refl, sym, ap, subst, ◌∙◌, arith}
use Rattle.std.proofs.lemmas.Bool.{lt-ltb}
use Rattle.std.specs.FinMap as map
use Rattle.eb_bytes.specs.Text.{Text}
use Rattle.eb_files.specs.declared.tree.TreeErr.{TreeErr}
use Rattle.eb_files.specs.declared.tree.TreeErr.TheVariants.{TooLarge}
use Rattle.eb_files.specs.Files.{Reads}
use Rattle.ebuild_names.specs.declared.path.NameKind.{NameKind}
use Rattle.ebuild_names.specs.BadKind.{bad_kind}
use Rattle.egencache.specs.declared.status.Status.{Status}
use Rattle.egencache.specs.declared.status.Status.TheVariants.{SomeFailed}
use Rattle.egencache.specs.declared.fault.Fault.TheVariants.{FormNotYet}
use Rattle.egencache.specs.Answered.{IsReportStatus}
use Rattle.egencache.specs.Meaning.{Sourced, not_run}
use Rattle.egencache.specs.Placed.{requested}
use Rattle.egencache.specs.Report.{Answer, file_answer, outcome_status, sourced_named, sourced_small}
use Rattle.egencache.specs.Request.{Request}
use Rattle.egencache.proofs.Puts.{IsReportStatus-outcome}
use Rattle.egencache.proofs.report.print_report.Goals as goal

pub returns-in_ok-file_report-in-Ok-Some-clause-status : goal.returns-in_ok-file_report-in-Ok-Some-clause-status
returns-in_ok-file_report-in-Ok-Some-clause-status g c =
    let P : Status → Type 0 = λ s. IsReportStatus s in
    subst P (sym c.in_ok-file_report-in-Ok-Some.ensures.status) (IsReportStatus-outcome _)

-- a file that could not be read is told so
pub returns-in-Err-Failed-clause-cause : goal.returns-in-Err-Failed-clause-cause
returns-in-Err-Failed-clause-cause g c = rw c.in-Err-Failed.field-0-is at c.in-Err-Failed.ensures.cause

-- a file that is too large is not run, and has a fault
record IsNotRun (s : Sourced) : Type 0 where
  failed : outcome_status s.outcome ≡ SomeFailed
  unpaid : s.steps ≡ 0

large_small : (text : Text) → 1048576 < length text → sourced_small text ≡ not_run (FormNotYet 0)
large_small text longer = let above : nat_lt 1048576 (length text) ≡ true = lt-ltb 1048576 (length text) longer in rw above refl

large_named : (k : Option NameKind) (text : Text) → 1048576 < length text → IsNotRun (sourced_named k text)
large_named (Some kind) text longer = record { failed = refl; unpaid = refl }
large_named None text longer =
    let P : Sourced → Type 0 = λ s. IsNotRun s in
    subst P (sym (large_small text longer)) (record { failed = refl; unpaid = refl })

large_read : (e : TreeErr) (file : Option Text) (limit : ℕ) → e ≡ TooLarge → Reads (Err e) file limit → (bytes : Text) × (file ≡ Some bytes) × (limit < length bytes)
large_read e file limit h r = let P : TreeErr → Type 0 = λ e. Reads (Err e) file limit in subst P h r

same_file : (request : Request) (file : Option Text) (text : Text) → file ≡ Some text → file_answer request file ≡ file_answer request (Some text)
same_file request file text e = ap (file_answer request) e

pub returns-in_ok-large_report-in-Err-TooLarge-clause-told : goal.returns-in_ok-large_report-in-Err-TooLarge-clause-told
returns-in_ok-large_report-in-Err-TooLarge-clause-told g c = λ f files.
    let read = large_read c.in-Err-TooLarge.field-0 _ _ c.in-Err-TooLarge.field-0-is (c.in-Err-TooLarge.ensures.means f files) in
    let request : Request = requested c.args.request.now in
    let large = large_named (bad_kind request.place) read.0 read.2 in
    let whole : file_answer request (map.get f request.path) ≡ file_answer request (Some read.0) = same_file request (map.get f request.path) read.0 read.1 in (
      c.in_ok-large_report-in-Err-TooLarge.ensures.status ∙ sym large.failed ∙ ap (λ (a : Answer). a.status) (sym whole),
      c.in_ok-large_report-in-Err-TooLarge.ensures.told read.0 read.2 ∙ ap (λ (a : Answer). a.text) (sym whole),
      (let unpaid : (file_answer request (map.get f request.path)).steps ≡ 0 = ap (λ (a : Answer). a.steps) whole ∙ large.unpaid in
          omega (arith, unpaid)),
    )
