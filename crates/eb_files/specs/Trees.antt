-- A tree of files in memory, whose calls fail where that was asked for.
use Rattle.std.specs.Prelude.{ℕ, Bool, nat_le, length, is_some, List, [], ◌∷◌, ◌++◌, Option, Some, None, Result, Ok, Err, if◌then◌else◌}
use Rattle.std.specs.FinMap as map
use Rattle.eb_bytes.specs.Text.{Text}
use Rattle.eb_files.specs.declared.tree.TreeErr.{TreeErr}
use Rattle.eb_files.specs.declared.tree.TreeErr.TheVariants.{Failed, TooLarge}
use Rattle.eb_files.specs.declared.plan.Plan.{Plan}
use Rattle.eb_files.specs.declared.call.Left.{Left}
use Rattle.eb_files.specs.declared.call.Call.{Call}
use Rattle.eb_files.specs.declared.call.CallKind.{CallKind}
use Rattle.eb_files.specs.Causes.{counted}
use Rattle.eb_files.specs.Files.{Files}
use Rattle.eb_files.specs.Plans.{due, nearer}

-- its files, the failures to come, the faults so far, and the calls so far, in order
pub record Kept : Type 0 where
  pub files : Files
  pub plans : List (Plan Left)
  pub faults : ℕ
  pub calls : List Call

-- what a read of a file answers, where no failure comes
abbrev pub read_answer : Option Text → ℕ → Result (Option Text) TreeErr
read_answer None limit = Ok None
read_answer (Some bytes) limit = if nat_le (length bytes) limit then Ok (Some bytes) else Err TooLarge

-- what it answers where a failure may be due
abbrev pub due_answer : {T L : Type 0} → Option L → Result T TreeErr → Result T TreeErr
due_answer None answer = answer
due_answer (Some left) answer = Err Failed

-- after a call of this kind on a path, which answered Ok or not
abbrev pub after_call : Kept → CallKind → Text → Bool → Kept
after_call t kind path ok = record t {
  plans = nearer t.plans;
  faults = counted (is_some (due t.plans)) t.faults;
  calls = t.calls ++ record { kind = kind; path = path; ok = ok } ∷ [];
}

-- the answer of a read
abbrev pub answer_of_read : Kept → Text → ℕ → Result (Option Text) TreeErr
answer_of_read t path limit = due_answer (due t.plans) (read_answer (map.get t.files path) limit)
