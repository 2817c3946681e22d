use Rattle.std.proofs.Common.{◌≡◌}
use Rattle.std.specs.Vec.Iter.{into_iter_items}
use Rattle.shell_vars.specs.Store.{kinds}
use Rattle.shell_state.specs.State.{State}
use Rattle.bash_declare.specs.Declarations.{declares_each}
use Rattle.bash_declare.proofs.declarations.declare.Given as goal

-- the arguments that are left are declared in the variables as they are now
abbrev pub invariant-loop-argument : goal.invariant-loop-argument
invariant-loop-argument g l = record {
  each : (at : State) → at.store ≡ l.fn.vars.present
      → declares_each l.name l.options l.fn.declaration.arguments.items at ≡ declares_each l.name l.options (into_iter_items l.argument-iterator) (record at { store = l.vars.present });
  saved : l.vars.saved ≡ l.fn.vars.saved;
  kinds : kinds l.vars.present ≡ kinds l.fn.vars.present;
}
