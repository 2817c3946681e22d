use Rattle.std.proofs.Common.{◌≡◌, drop}
use Rattle.bash_declare.specs.Shown.{line_of, told, told_after}
use Rattle.bash_declare.proofs.shown.variables_told.Given as goal

abbrev pub invariant-loop-name : goal.invariant-loop-name
invariant-loop-name l =
    told (line_of l.fn.vars.present) l.fn.names ≡ told_after (line_of l.fn.vars.present) l.told (drop l.name-index l.names)
