-- Assignments that are refused.
use Rattle.std.proofs.Common.{◌≡◌, ◌≢◌, ℤ, Option, Result, Ok, Err, refl, sym, ap, ◌∙◌, ◌≤◌, arith}
use Rattle.eb_bytes.specs.Text.{Text}
use Rattle.shell_vars.specs.Calls.{assign, set}
use Rattle.shell_vars.specs.Store.{Store}
use Rattle.shell_vars.specs.Stores.{Refuses}
use Rattle.shell_vars.specs.declared.error.VarErr.{VarErr}
use Rattle.shell_vars.specs.declared.error.VarErr.TheVariants as error
use Rattle.shell_vars.specs.declared.value.Value.{Value}
use Rattle.shell_state.specs.Outcome.{Faulted, Tells, left_of}
use Rattle.shell_state.specs.State.{State}
use Rattle.shell_state.specs.Stops.{IsRefusal}
use Rattle.shell_state.specs.declared.stop.Stop.{Stop}
use Rattle.shell_state.specs.declared.stop.Stop.TheVariants as stop
use Rattle.bash_assign.specs.Assignments.{assigns, changed, sets}

given_is : (e : VarErr) (given : Result Store VarErr) → e ≢ error.Memory → Refuses e given → given ≡ Err e
given_is error.Readonly given isnt h = h
given_is error.LocalOutside given isnt h = h
given_is error.BadSubscript given isnt h = h
given_is error.ValueSize given isnt h = h
given_is error.TotalSize given isnt h = h
given_is error.Memory given isnt h = absurd (isnt refl)

-- no step is given back
pub changed_left : (name : Text) (given : Result Store VarErr) (at : State) → left_of (changed name given at) ≤ at.left
changed_left name (Ok store) at = omega arith
changed_left name (Err e) at = omega arith

by_stop : (why : Stop) (name : Text) (e : VarErr) (given : Result Store VarErr) (at : State) (store : Store)
    → IsRefusal why name e → Refuses e given → Tells (Err why) (changed name given at) (record at { store = store })
by_stop (stop.Fault why) name e given at store is h =
    ap (λ r. changed name r at) (given_is e given is.0 h) ∙ ap (λ f. Faulted f at.left at.host.asked) (sym is.1)
by_stop stop.Failed name e given at store is h = absurd is
by_stop stop.Memory name e given at store is h = changed_left name given at

pub refused : (why : Stop) (name : Text) (index : Option ℤ) (t : Text) (e : VarErr) (old new : Store) (at : State)
    → IsRefusal why name e → Refuses e (assign name index t old) → at.store ≡ old
    → Tells (Err why) (assigns name index t at) (record at { store = new })
refused why name index t e old new at is h same = by_stop why name e (assign name index t at.store) at new is (rw same h)

pub not_set : (why : Stop) (name : Text) (v : Value) (e : VarErr) (old new : Store) (at : State)
    → IsRefusal why name e → Refuses e (set name v old) → at.store ≡ old → Tells (Err why) (sets name v at) (record at { store = new })
not_set why name v e old new at is h same = by_stop why name e (set name v at.store) at new is (rw same h)

pub sets_left : (name : Text) (v : Value) (at : State) → left_of (sets name v at) ≤ at.left
sets_left name v at = changed_left name (set name v at.store) at

pub assigns_left : (name : Text) (index : Option ℤ) (t : Text) (at : State) → left_of (assigns name index t at) ≤ at.left
assigns_left name index t at = changed_left name (assign name index t at.store) at

-- a refusal of what was to be given
pub by_refusal : (why : Stop) (name : Text) (e : VarErr) (make : Store → Result Store VarErr) (old new : Store) (at : State)
    → IsRefusal why name e → Refuses e (make old) → at.store ≡ old → Tells (Err why) (changed name (make at.store) at) (record at { store = new })
by_refusal why name e make old new at is h same = by_stop why name e (make at.store) at new is (rw same h)
