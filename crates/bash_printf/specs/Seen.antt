-- What the words of `printf` say, as this crate hands it on.
use Rattle.std.specs.Prelude.{[], ◌∷◌, codes}
use Rattle.std.specs.Option.{option_copied, option_map}
use Rattle.shell_state.specs.declared.fault.Fault.{Fault}
use Rattle.shell_state.specs.declared.fault.Fault.TheVariants as fault
use Rattle.bash_printf.specs.declared.words_read.Destination.{Destination}
use Rattle.bash_printf.specs.declared.words_read.Job.{Job}
use Rattle.bash_printf.specs.declared.words_read.Job.TheVariants as job
use Rattle.bash_printf.specs.declared.words_read.Wrong.{Wrong}
use Rattle.bash_printf.specs.declared.words_read.Wrong.TheVariants as wrong
use Rattle.bash_printf.specs.Use as meaning

abbrev pub seen_destination : Destination → meaning.Target
seen_destination d = record { name = d.name.now; subscript = option_copied d.subscript }

abbrev pub seen_fault : Wrong → Fault
seen_fault wrong.BadUse = fault.BadUse (codes "printf")
seen_fault (wrong.BadName w) = fault.BadName w.now
seen_fault (wrong.BadOption c) = fault.BadOption (codes "printf") (45 ∷ c ∷ [])

abbrev pub seen : Job → meaning.Use
seen (job.Formats to format words) = meaning.Formats (option_map seen_destination to) format.now words.now
seen (job.Refused why) = meaning.Wrong (seen_fault why)
