-- What the words of `shopt` and `set` say, as the code hands it on.
use Rattle.std.specs.Prelude.{[], ◌∷◌, codes, option_copied}
use Rattle.shell_state.specs.declared.fault.Fault.{Fault}
use Rattle.shell_state.specs.declared.fault.Fault.TheVariants as fault
use Rattle.bash_options.specs.Set as set
use Rattle.bash_options.specs.Use as meaning
use Rattle.bash_options.specs.declared.set_builtin.Job.{Job as SetJob}
use Rattle.bash_options.specs.declared.set_builtin.Job.TheVariants as set_job
use Rattle.bash_options.specs.declared.shopt_words.Job.{Job}
use Rattle.bash_options.specs.declared.shopt_words.Job.TheVariants as job
use Rattle.bash_options.specs.declared.shopt_words.Wrong.{Wrong}
use Rattle.bash_options.specs.declared.shopt_words.Wrong.TheVariants as wrong

abbrev pub seen_fault : Wrong → Fault
seen_fault wrong.BadUse = fault.BadUse (codes "shopt")
seen_fault (wrong.BadLetter c) = fault.BadOption (codes "shopt") (45 ∷ c ∷ [])
seen_fault (wrong.BadName t) = fault.BadOption (codes "shopt") t.now

abbrev pub seen : Job → meaning.Use
seen (job.Asks a names) = meaning.Asks a names.now
seen (job.Refused why) = meaning.IsWrong (seen_fault why)

abbrev pub seen_set : SetJob → set.Set
seen_set (set_job.Sets noglob args) = set.Sets noglob (option_copied args)
seen_set (set_job.BadLetter sign c) = set.IsWrong (fault.BadOption (codes "set") (sign ∷ c ∷ []))
