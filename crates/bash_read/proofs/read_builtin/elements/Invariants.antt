use Rattle.std.proofs.Common.{◌≡◌, drop, map}
use Rattle.shell_marks.specs.Marks.{unquoted}
use Rattle.bash_read.specs.Read.{array_of}
use Rattle.shell_vars.specs.Elements.{put_from}
use Rattle.bash_read.proofs.read_builtin.elements.Given as goal

abbrev pub invariant-loop-index : goal.invariant-loop-index
invariant-loop-index l = put_from l.index (map unquoted (drop l.index l.fields)) l.elements ≡ array_of (map unquoted l.fields)
