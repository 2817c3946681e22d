use Rattle.std.proofs.Common.{◌≡◌, drop}
use Rattle.shell_vars.specs.Store.{kinds}
use Rattle.shell_state.specs.State.{State}
use Rattle.bash_read.specs.Read.{assigns_each}
use Rattle.bash_read.proofs.read_builtin.give_each.Given as goal

-- the names that are left take the texts that are left
abbrev pub invariant-loop-index : goal.invariant-loop-index
invariant-loop-index l = record {
  each : (at : State) → at.store ≡ l.fn.vars.present
      → assigns_each l.names l.texts at ≡ assigns_each (drop l.index l.names) (drop l.index l.texts) (record at { store = l.vars.present });
  saved : l.vars.saved ≡ l.fn.vars.saved;
  kinds : kinds l.vars.present ≡ kinds l.fn.vars.present;
}
