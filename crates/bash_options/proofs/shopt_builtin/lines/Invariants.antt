use Rattle.std.proofs.Common.{◌≡◌, take}
use Rattle.bash_options.specs.Shopt.{lines}
use Rattle.bash_options.proofs.shopt_builtin.lines.Given as goal

abbrev pub invariant-loop-name : goal.invariant-loop-name
invariant-loop-name l = l.lines ≡ lines l.opts (take l.name-index l.names)
