use Rattle.std.proofs.Common.{sym}
use Rattle.egencache.proofs.Puts.{HasCause-same, PutsPrefix-appended, not_report_fault}
use Rattle.egencache.proofs.top.put_text.Goals as goal

pub returns-in-Err-Failed-clause-puts : goal.returns-in-Err-Failed-clause-puts
returns-in-Err-Failed-clause-puts g c = λ held told. PutsPrefix-appended c.put.result c.args.text.now held _ (c.put.ensures.means held told)

pub returns-in-Err-Memory-clause-puts : goal.returns-in-Err-Memory-clause-puts
returns-in-Err-Memory-clause-puts g c = λ held told. PutsPrefix-appended c.put.result c.args.text.now held _ (c.put.ensures.means held told)

pub returns-in-Ok-clause-cause : goal.returns-in-Ok-clause-cause
returns-in-Ok-clause-cause g c = HasCause-same (sym (not_report_fault c.args.status c.requires)) c.in-Ok.ensures.cause
