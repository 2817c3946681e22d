use Rattle.std.proofs.Common.{◌≡◌, ◌++◌, drop}
use Rattle.std.specs.Prelude.{map}
use Rattle.bash_declare.specs.Declarations.{named_by}
use Rattle.bash_declare.proofs.declarations.names_of.Given as goal

abbrev pub invariant-loop-argument : goal.invariant-loop-argument
invariant-loop-argument l =
    map named_by l.fn.arguments ≡ l.names.items ++ map named_by (drop l.argument-index l.arguments)
