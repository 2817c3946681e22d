use Rattle.std.proofs.Common.{arith, length-append}
use Rattle.std.proofs.lemmas.Bool.Decides.{nat_tests}
use Rattle.shell_vars.proofs.plan.is_short_after.Goals as goal

pub returns : goal.returns
returns c = let long = length-append c.args.first.now c.args.text.now in grind (arith, nat_tests, long)
