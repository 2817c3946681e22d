-- What the words of `read` say, as the code hands it on.
use Rattle.std.specs.Prelude.{◌≡◌, [], ◌∷◌, codes}
use Rattle.std.specs.Option.{option_copied}
use Rattle.shell_state.specs.declared.fault.Fault.{Fault}
use Rattle.shell_state.specs.declared.fault.Fault.TheVariants as fault
use Rattle.shell_state.specs.declared.stop.Stop.{Stop}
use Rattle.shell_state.specs.declared.stop.Stop.TheVariants as stop
use Rattle.bash_read.specs.declared.options.Job.{Job}
use Rattle.bash_read.specs.declared.options.Job.TheVariants as job
use Rattle.bash_read.specs.declared.options.Options.{Options}
use Rattle.bash_read.specs.declared.options.Wrong.{Wrong}
use Rattle.bash_read.specs.declared.options.Wrong.TheVariants as wrong
use Rattle.bash_read.specs.Options as meaning

abbrev pub seen_options : Options → meaning.Options
seen_options o = record { raw = o.raw; array = option_copied o.array; delimiter = o.delimiter }

abbrev pub seen_fault : Wrong → Fault
seen_fault wrong.BadUse = fault.BadUse (codes "read")
seen_fault (wrong.BadName w) = fault.BadName w.now
seen_fault (wrong.BadOption c) = fault.BadOption (codes "read") (45 ∷ c ∷ [])

abbrev pub seen : Job → meaning.Job
seen (job.Reads o names) = meaning.Reads (seen_options o) names.now
seen (job.Refused why) = meaning.Wrong (seen_fault why)

-- it is this fault, or out of memory
abbrev pub IsWrong : Stop → Fault → Type 0
IsWrong (stop.Fault why) f = why ≡ f
IsWrong stop.Failed f = ⊥
IsWrong stop.Memory f = Unit {0}
