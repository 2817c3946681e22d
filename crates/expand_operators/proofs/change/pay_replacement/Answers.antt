use Rattle.std.proofs.Common.{◌/◌, refl, ◌∙◌, arith}
use Rattle.bash_params.specs.Cost.{match_cost}
use Rattle.shell_state.specs.Spending.{left}
use Rattle.bash_cond.proofs.Matched.{no_time, once_more, times_stopped}
use Rattle.expand_operators.proofs.change.pay_replacement.Goals as goal

pub loop-turn-init : goal.loop-turn-init
loop-turn-init g c = record {
  spent = λ at e. no_time (match_cost c.args.bytes c.args.marks) at (left c.args.budget.now) e;
  limit = refl;
  used = omega arith;
  ticks = refl;
}

pub loop-turn-preserved : goal.loop-turn-preserved
loop-turn-preserved g c = record {
  spent = λ at e.
      once_more c.loop-turn._turn (match_cost c.args.bytes c.args.marks) at (left c.loop-turn.budget) (left c.pay_match.new.budget) (c.loop-turn.invariant.spent at e)
      (c.in-Ok.ensures.means (record at { left = left c.loop-turn.budget }) refl);
  limit = c.in-Ok.ensures.limit ∙ c.loop-turn.invariant.limit;
  used = omega (arith, c.loop-turn.invariant.used, c.in-Ok.ensures.used);
  ticks = omega (arith, c.loop-turn.invariant.ticks, c.in-Ok.ensures.ticks, c.loop-turn.invariant.used, c.in-Ok.ensures.used);
}

pub returns-in-Err-clause-means : goal.returns-in-Err-clause-means
returns-in-Err-clause-means g c at e =
    times_stopped c.in-Err.stopped c.loop-turn._turn (c.args.bytes / 64) (match_cost c.args.bytes c.args.marks) at (left c.loop-turn.budget) (left c.pay_match.new.budget)
    c.in-Err.ensures.only_spent (omega (arith, c.loop-turn-test.true, c.loop-turn.auto._turn-end)) (c.loop-turn.invariant.spent at e)
    (c.in-Err.ensures.means (record at { left = left c.loop-turn.budget }) refl)
