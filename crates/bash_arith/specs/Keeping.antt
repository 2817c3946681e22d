-- What every use of the machine keeps.
use Rattle.std.specs.Prelude.{◌≡◌, ◌≤◌, ◌+◌}
use Rattle.shell_vars.specs.Store.{kinds}
use Rattle.bash_arith.specs.declared.machine.Machine.{Machine}
use Rattle.bash_arith.specs.Outcome.{State, state}

-- the variables and the steps that are left
abbrev pub state_of : {L : Type 0} → Machine L → State
state_of m = state m.vars.now m.budget.now

-- it borrows the same variables, budget and steps. Saved stores, the kinds of the open frames and the budget's limit stay
-- as they were, and the steps used are the steps taken.
pub record Keeps {L : Type 0} (old new : Machine L) : Type 0 where
  pub same_vars : new.vars.ghost_name ≡ old.vars.ghost_name
  pub same_budget : new.budget.ghost_name ≡ old.budget.ghost_name
  pub same_steps : new.steps.ghost_name ≡ old.steps.ghost_name
  pub saved : new.vars.now.saved ≡ old.vars.now.saved
  pub frames : kinds new.vars.now.present ≡ kinds old.vars.now.present
  pub limit : new.budget.now.limit ≡ old.budget.now.limit
  pub used : old.budget.now.used ≤ new.budget.now.used
  pub ticks : new.steps.now + old.budget.now.used ≡ old.steps.now + new.budget.now.used
