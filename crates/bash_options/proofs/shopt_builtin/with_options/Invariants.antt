use Rattle.std.proofs.Common.{◌≡◌, drop}
use Rattle.std.specs.Prelude.{fold}
use Rattle.bash_options.specs.Options.{with_option}
use Rattle.bash_options.proofs.shopt_builtin.with_options.Given as goal

abbrev pub invariant-loop-name : goal.invariant-loop-name
invariant-loop-name l = fold (with_option l.on) l.opts (drop l.name-index l.names) ≡ fold (with_option l.on) l.fn.opts l.names
