use Rattle.std.proofs.Common.{◌≡◌, drop}
use Rattle.std.specs.Prelude.{find}
use Rattle.bash_options.specs.Use.{is_no_name}
use Rattle.bash_options.proofs.shopt_words.unknown_name.Given as goal

abbrev pub invariant-loop-name : goal.invariant-loop-name
invariant-loop-name l = find is_no_name (drop l.name-index l.names) ≡ find is_no_name l.names
