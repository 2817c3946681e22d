use Rattle.std.proofs.Common.{arith, rules}
use Rattle.bash_braces.proofs.Opening.{opened_step}
use Rattle.bash_braces.proofs.token.+open.Goals as goal

pub open-returns-in_ok-push-in-Some-2 : goal.open-returns-in_ok-push-in-Some-2
open-returns-in_ok-push-in-Some-2 t c = opened_step c.args.tokens.now.items c.push.new.self.items c.open_all.new.tokens.items c.push-in-Some.new.self.items c.in-Some.kind c.args.nested c.in-Some.parts.now c.args.part.now c.in_ok-push-in-Some.ensures.items c.in_ok-open_all-in-Some.ensures c.in_ok-push-in-Some-2.ensures.items (omega arith) (search rules)
