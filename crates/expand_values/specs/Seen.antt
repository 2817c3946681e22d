-- What the code keeps of what a reference finds, as the meaning of words has it.
use Rattle.std.specs.Prelude.{◌≡◌, ℤ, Result, Ok, Err, Some}
use Rattle.std.specs.Option.{option_map}
use Rattle.eb_bytes.specs.Text.{Text}
use Rattle.shell_state.specs.Outcome.{Doing, Outcome, Ended, Faulted, ◌>>◌}
use Rattle.shell_state.specs.State.{State}
use Rattle.shell_state.specs.declared.stop.Stop.{Stop}
use Rattle.shell_state.specs.declared.stop.Stop.TheVariants as stop
use Rattle.shell_vars.specs.Calls as call
use Rattle.word_meaning.specs.References as refs
use Rattle.word_meaning.specs.References.{element_found, may_read}
use Rattle.expand_values.specs.declared.found.Found.{Found}
use Rattle.expand_values.specs.declared.found.Found.TheVariants as found
use Rattle.expand_values.specs.declared.found.Place.{Place}
use Rattle.expand_values.specs.declared.found.Source.{Source}
use Rattle.expand_values.specs.declared.found.Source.TheVariants as source

abbrev pub place_of : Place → refs.Place
place_of p = record { name = p.name; index = p.index }

abbrev pub source_of : Source → refs.Source
source_of (source.Array es) = refs.Array es
source_of (source.Arguments ts) = refs.Arguments ts

abbrev pub found_of : Found → refs.Found
found_of (found.One t place) = refs.One t (option_map place_of place)
found_of (found.Many star s) = refs.Many star (source_of s)

-- what is found is how a part of a run ends, in the state in which it began, or its fault is; nothing is spent or
-- changed, also where there is no room
abbrev pub Finds : Result Found Stop → Outcome refs.Found → State → Type 0
Finds (Ok f) r at = r ≡ Ended (found_of f) at
Finds (Err (stop.Fault fault)) r at = r ≡ Faulted fault at.left at.host.asked
Finds (Err stop.Failed) r at = ⊥
Finds (Err stop.Memory) r at = Unit {0}

-- the element that an index means, once its subscript is evaluated
abbrev pub element_at : Text → ℤ → Doing refs.Found
element_at name i = may_read name >> (λ at. element_found name i (call.element name (Some i) at.store) at)

-- a variable may be read, or is refused
abbrev pub Reads : Result (Unit {0}) Stop → Text → Type 0
Reads (Ok done) name = (at : State) → may_read name at ≡ Ended tt at
Reads (Err (stop.Fault fault)) name = (at : State) → may_read name at ≡ Faulted fault at.left at.host.asked
Reads (Err stop.Failed) name = ⊥
Reads (Err stop.Memory) name = Unit {0}
