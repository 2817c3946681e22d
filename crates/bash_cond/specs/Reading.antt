-- What the code keeps of words of `test` that are read, as the definition has it.
use Rattle.std.specs.Prelude.{Ok, Err}
use Rattle.shell_state.specs.declared.fault.Fault.TheVariants as fault
use Rattle.bash_cond.specs.Verdict.{Verdict}
use Rattle.bash_cond.specs.Words as words
use Rattle.bash_cond.specs.declared.test_words.Answer.{Answer}
use Rattle.bash_cond.specs.declared.test_words.Answer.TheVariants as answer
use Rattle.bash_cond.specs.declared.test_words.Read.{Read}

-- an answer, whose fault shows a word
abbrev pub verdict_of : Answer → Verdict
verdict_of (answer.Is b) = Ok b
verdict_of (answer.Unread word) = Err (fault.BadTest word.now)
verdict_of (answer.NoName word) = Err (fault.BadName word.now)
verdict_of (answer.Refused name) = Err (fault.Unsupported name.now)
verdict_of (answer.OfFile operator) = Err (fault.FileTest operator.now)

-- what a rule reads
abbrev pub read_of : Read → words.Read
read_of r = record { value = verdict_of r.value; rest = r.rest.now }
