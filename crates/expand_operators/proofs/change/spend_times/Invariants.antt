use Rattle.std.proofs.Common.{◌≡◌, ◌+◌, ◌*◌, ◌≤◌}
use Rattle.shell_state.specs.State.{State}
use Rattle.shell_state.specs.Outcome.{Ended}
use Rattle.shell_state.specs.Spending.{left, spend}
use Rattle.expand_operators.proofs.change.spend_times.Given as goal

-- what was spent so far
abbrev pub invariant-loop-turn : goal.invariant-loop-turn
invariant-loop-turn g l = record {
  spent : (at : State) → at.left ≡ left l.fn.budget → spend (l._turn * l.each) at ≡ Ended tt (record at { left = left l.budget });
  limit : l.budget.limit ≡ l.fn.budget.limit;
  used : l.fn.budget.used ≤ l.budget.used;
  ticks : l.steps + l.fn.budget.used ≡ l.fn.steps + l.budget.used;
}
