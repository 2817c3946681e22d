use Rattle.std.proofs.Common.{ap, ◌∙◌}
use Rattle.std.specs.Option.{option_map}
use Rattle.arith_syntax.specs.Constants.{low}
use Rattle.arith_syntax.proofs.Hashes.{in_base, no_base, no_hash}
use Rattle.arith_syntax.proofs.constant.written.Goals as goal

pub returns-in_err-base-in-Some : goal.returns-in_err-base-in-Some
returns-in_err-base-in-Some c = c.from_residual.ensures ∙ no_base c.args.word.now c.in-Some.place c.in-Some.ensures c.in_err-base-in-Some.ensures

pub returns-in_ok-base-in-Some : goal.returns-in_ok-base-in-Some
returns-in_ok-base-in-Some c = c.digits.ensures ∙ in_base c.args.word.now c.in-Some.place c.in_ok-base-in-Some.base c.in-Some.ensures c.in_ok-base-in-Some.ensures

pub returns-in-None : goal.returns-in-None
returns-in-None c = c.written_plain.ensures ∙ ap (option_map low) (no_hash c.args.word.now c.in-None.ensures)
