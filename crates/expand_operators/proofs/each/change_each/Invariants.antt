use Rattle.std.proofs.Common.{◌≡◌, ◌+◌, ◌≤◌, drop}
use Rattle.shell_state.specs.Spending.{left}
use Rattle.shell_state.specs.State.{State}
use Rattle.word_meaning.specs.Operators.{each_text}
use Rattle.expand_operators.specs.Changes.{changes_text}
use Rattle.expand_operators.proofs.InRow.{behind}
use Rattle.expand_operators.proofs.each.change_each.Given as goal

-- what is made so far
abbrev pub invariant-loop-text : goal.invariant-loop-text
invariant-loop-text g l = record {
  made : (at : State) → at.left ≡ left l.fn.budget →
      each_text (changes_text l.change) l.texts at ≡ behind (changes_text l.change) l.changed (drop l.text-index l.texts) (record at { left = left l.budget });
  limit : l.budget.limit ≡ l.fn.budget.limit;
  used : l.fn.budget.used ≤ l.budget.used;
  ticks : l.steps + l.fn.budget.used ≡ l.fn.steps + l.budget.used;
}
