use Rattle.std.proofs.Common.{◌≡◌, drop}
use Rattle.bash_declare.specs.Shown.{function_line, told, told_after}
use Rattle.bash_declare.proofs.shown.functions_told.Given as goal

abbrev pub invariant-loop-name : goal.invariant-loop-name
invariant-loop-name l =
    told (function_line l.fn.funcs.present) l.fn.names ≡ told_after (function_line l.fn.funcs.present) l.told (drop l.name-index l.names)
