use Rattle.std.proofs.Common.{◌≡◌, drop}
use Rattle.bash_printf.specs.Echo.{operands, options, options_from}
use Rattle.bash_printf.proofs.echo_builtin.read_options.Given as goal

abbrev pub invariant-loop-index : goal.invariant-loop-index
invariant-loop-index l = record {
  options : options_from l.options (drop l.index l.words) ≡ options l.words;
  rest : operands (drop l.index l.words) ≡ operands l.words;
}
