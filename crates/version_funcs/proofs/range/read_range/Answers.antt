use Rattle.std.proofs.Common.{◌∙◌, ap}
use Rattle.std.specs.List.{list_all}
use Rattle.byte_class.specs.Class.{is_digit}
use Rattle.version_funcs.proofs.Runs.{list_all-take_while}
use Rattle.version_funcs.proofs.range.read_range.Goals as goal

pub number_up_to-requires-clause-digits : goal.number_up_to-requires-clause-digits
number_up_to-requires-clause-digits c = ap (list_all is_digit) c.split_run.ensures.run ∙ list_all-take_while is_digit c.args.text.now

pub number_up_to-requires-in-empty-clause-digits : goal.number_up_to-requires-in-empty-clause-digits
number_up_to-requires-in-empty-clause-digits c = ap (list_all is_digit) c.split_run.ensures.run ∙ list_all-take_while is_digit c.args.text.now

pub read_end-requires-clause-digits : goal.read_end-requires-clause-digits
read_end-requires-clause-digits c = ap (list_all is_digit) c.split_run.ensures.run ∙ list_all-take_while is_digit c.args.text.now
