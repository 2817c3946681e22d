use Rattle.std.proofs.Common.{◌≡◌, ◌+◌, ◌≤◌, Option, Some, None, Result, Err, refl, sym, ap, subst, ◌∙◌}
use Rattle.std.specs.Option.{option_map}
use Rattle.egencache.specs.declared.report.Report.{Report}
use Rattle.egencache.specs.declared.report.ReportErr.{ReportErr}
use Rattle.egencache.specs.declared.report.ReportErr.TheVariants as why
use Rattle.egencache.specs.declared.request.Request as read
use Rattle.egencache.specs.Answered.{Puts}
use Rattle.egencache.specs.Placed.{requested}
use Rattle.egencache.specs.Report.{Answer, file_fault_text}
use Rattle.egencache.specs.Request.{request_of}
use Rattle.egencache.proofs.Puts.{HasCause-none, HasCause-same, IsPutStatus-report, PutsAllOrNothing-appended, PutsPrefix-appended, SinkCause-file_fault, SinkCause-none, SinkCause-put, TellsReport-fault, TellsReport-memory, answer_to-request, answer_to-usage, file_fault_never, not_file_fault}
use Rattle.egencache.proofs.top.egencache.Goals as goal

pub returns-in-Ok-None-clause-puts : goal.returns-in-Ok-None-clause-puts
returns-in-Ok-None-clause-puts g c = λ f held files told.
    let none : None ≡ request_of c.args.words.now = ap (λ (r : Option read.Request). option_map requested r) (sym c.in-Ok-None.field-0-is) ∙ c.in-Ok-None.ensures in
    let P : Answer → Type 0 = λ answer. Puts c.put_text.result answer.text held (g.S.Sink.written c.put_text.new.out) in
    subst P (sym (answer_to-usage c.args.words.now f none)) (c.put_text.ensures.puts held told)

pub put_text-requires-in-Ok : goal.put_text-requires-in-Ok
put_text-requires-in-Ok g c = IsPutStatus-report c.in-Ok.report.status c.in-Ok.ensures.status

-- usage and a report do not end with a file fault
pub returns-in-Ok-None-clause-tree_cause : goal.returns-in-Ok-None-clause-tree_cause
returns-in-Ok-None-clause-tree_cause g c = HasCause-same (sym (not_file_fault c.put_text.result _ tt c.put_text.ensures.ends)) (HasCause-none _ _)

pub returns-in-Ok-None-clause-sink_cause : goal.returns-in-Ok-None-clause-sink_cause
returns-in-Ok-None-clause-sink_cause g c = SinkCause-put _ _ _ _ _ (not_file_fault c.put_text.result _ tt c.put_text.ensures.ends) c.put_text.ensures.cause

pub returns-in-Ok-clause-tree_cause : goal.returns-in-Ok-clause-tree_cause
returns-in-Ok-clause-tree_cause g c =
    let none = not_file_fault c.put_text-in-Ok.result c.in-Ok.report.status (IsPutStatus-report _ c.in-Ok.ensures.status) c.put_text-in-Ok.ensures.ends in
    HasCause-same (sym none) c.in-Ok.ensures.cause

pub returns-in-Ok-clause-sink_cause : goal.returns-in-Ok-clause-sink_cause
returns-in-Ok-clause-sink_cause g c =
    let none = not_file_fault c.put_text-in-Ok.result c.in-Ok.report.status (IsPutStatus-report _ c.in-Ok.ensures.status) c.put_text-in-Ok.ensures.ends in
    SinkCause-put _ _ _ _ _ none c.put_text-in-Ok.ensures.cause

pub returns-in-Ok-clause-fault_line : goal.returns-in-Ok-clause-fault_line
returns-in-Ok-clause-fault_line g c = λ held e told calm.
    let none = not_file_fault c.put_text-in-Ok.result c.in-Ok.report.status (IsPutStatus-report _ c.in-Ok.ensures.status) c.put_text-in-Ok.ensures.ends in
    absurd (file_fault_never c.put_text-in-Ok.result none e)

pub returns-in-Err-clause-sink_cause : goal.returns-in-Err-clause-sink_cause
returns-in-Err-clause-sink_cause g c = SinkCause-none _ _ _ refl

pub returns-in-Err-Memory-clause-sink_cause : goal.returns-in-Err-Memory-clause-sink_cause
returns-in-Err-Memory-clause-sink_cause g c = SinkCause-none _ _ _ refl

pub returns-clause-sink_cause : goal.returns-clause-sink_cause
returns-clause-sink_cause g c = SinkCause-file_fault _ _ _ _ _ c.put.ensures.cause

pub returns-in-Err-Memory-clause-answers : goal.returns-in-Err-Memory-clause-answers
returns-in-Err-Memory-clause-answers g c = λ f files.
    let some : Some (requested c.in-Ok-Some.request) ≡ request_of c.args.words.now = ap (λ (r : Option read.Request). option_map requested r) (sym c.in-Ok-Some.field-0-is) ∙ c.in-Ok-Some.ensures in
    let failed : ReportErr → Result Report ReportErr = λ e. Err e in
    let wanting : c.print_report.result ≡ Err why.Memory = c.in-Err-Memory.is ∙ ap failed c.in-Err-Memory.field-0-is in
    let P : Answer → Type 0 = λ answer. (c.args.steps.now ≤ c.print_report.new.steps) × (c.print_report.new.steps ≤ c.args.steps.now + answer.steps) in
    subst P (sym (answer_to-request c.args.words.now f (requested c.in-Ok-Some.request) some)) (TellsReport-memory c.print_report.result _ _ _ wanting (c.print_report.ensures.told f files))

pub returns-clause-answers : goal.returns-clause-answers
returns-clause-answers g c = λ f files.
    let failed : ReportErr → Result Report ReportErr = λ e. Err e in
    let fault : c.print_report.result ≡ Err why.FileFault = c.in-Err-FileFault.is ∙ ap failed c.in-Err-FileFault.field-0-is in
    TellsReport-fault c.print_report.result _ _ _ fault (c.print_report.ensures.told f files)

pub returns-clause-puts : goal.returns-clause-puts
returns-clause-puts g c = λ f held files told. PutsPrefix-appended c.put.result file_fault_text held (g.S.Sink.written c.put.new.self) (c.put.ensures.means held told)

pub returns-clause-fault_line : goal.returns-clause-fault_line
returns-clause-fault_line g c = λ held e told calm. PutsAllOrNothing-appended c.put.result file_fault_text held (g.S.Sink.written c.put.new.self) _ _ _ _ (c.put.ensures.means held told) c.put.ensures.cause calm
