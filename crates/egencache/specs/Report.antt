-- What the program answers: its status, the text that it puts, and the steps of the ebuild's run.
use Rattle.std.specs.Prelude.{ℕ, nat_lt, List, [], ◌∷◌, ◌++◌, length, Option, Some, None, codes, if◌then◌else◌}
use Rattle.std.specs.FinMap as map
use Rattle.eb_bytes.specs.Text.{Text}
use Rattle.eb_files.specs.Files.{Files}
use Rattle.ebuild_names.specs.declared.path.EbuildPath.{EbuildPath}
use Rattle.ebuild_names.specs.declared.path.NameKind.{NameKind}
use Rattle.ebuild_names.specs.BadKind.{bad_kind}
use Rattle.md5_cache.specs.Entry.{entry_text}
use Rattle.egencache.specs.declared.fault.Fault.{Fault}
use Rattle.egencache.specs.declared.fault.Fault.TheVariants.{FormNotYet, NameBad}
use Rattle.egencache.specs.declared.status.Status.{Status}
use Rattle.egencache.specs.declared.status.Status.TheVariants as status
use Rattle.egencache.specs.declared.source.Outcome.{Outcome}
use Rattle.egencache.specs.declared.source.Outcome.TheVariants as outcome
use Rattle.egencache.specs.Faults.{fault_text}
use Rattle.egencache.specs.Meaning.{Sourced, not_run, sourced}
use Rattle.egencache.specs.Request.{Request, request_of}

pub record Answer : Type 0 where
  pub status : Status
  pub text : Text
  pub steps : ℕ

-- ---- the texts

abbrev pub usage_text : Text
usage_text = codes "egencache: usage" ++ 10 ∷ []

abbrev pub file_fault_text : Text
file_fault_text = codes "egencache: file fault" ++ 10 ∷ []

abbrev pub absent_text : Text → Text
absent_text at = codes "egencache: repository: no such ebuild " ++ at ++ 10 ∷ []

abbrev pub fail_text : Text → Fault → Text
fail_text at fault = codes "fail " ++ at ++ codes ": " ++ fault_text fault ++ 10 ∷ []

-- ---- the answers

abbrev pub usage_answer : Answer
usage_answer = record { status = status.Usage; text = usage_text; steps = 0 }

abbrev pub absent_answer : Text → Answer
absent_answer at = record { status = status.RepoBad; text = absent_text at; steps = 0 }

abbrev pub outcome_status : Outcome → Status
outcome_status (outcome.Entry entry) = status.Done
outcome_status (outcome.Fault fault) = status.SomeFailed

abbrev pub outcome_text : Text → Outcome → Text
outcome_text at (outcome.Entry entry) = entry_text entry
outcome_text at (outcome.Fault fault) = fail_text at fault

abbrev pub sourced_answer : Text → Sourced → Answer
sourced_answer at given = record { status = outcome_status given.outcome; text = outcome_text at given.outcome; steps = given.steps }

-- a file of more than 1 MiB cannot be read yet
abbrev pub sourced_small : Text → Sourced
sourced_small text = if nat_lt 1048576 (length text) then not_run (FormNotYet 0) else sourced text

-- an ebuild is read only where its path in the repository is well formed
abbrev pub sourced_named : Option NameKind → Text → Sourced
sourced_named None text = sourced_small text
sourced_named (Some kind) text = not_run (NameBad kind)

abbrev pub sourced_file : EbuildPath → Text → Sourced
sourced_file place text = sourced_named (bad_kind place) text

abbrev pub file_answer : Request → Option Text → Answer
file_answer request None = absent_answer request.at
file_answer request (Some text) = sourced_answer request.at (sourced_file request.place text)

abbrev pub request_answer : Option Request → Files → Answer
request_answer None files = usage_answer
request_answer (Some request) files = file_answer request (map.get files request.path)

-- the answer to the words, where these are the files
abbrev pub answer_to : List Text → Files → Answer
answer_to words files = request_answer (request_of words) files
