-- Fields within their limits.
use Rattle.std.specs.Prelude.{◌≡◌, ℕ, ◌+◌, List, Result, Ok, Err}
use Rattle.eb_bytes.specs.Text.{Text}
use Rattle.shell_state.specs.Outcome.{Faulted}
use Rattle.shell_state.specs.Spending.{size_of}
use Rattle.shell_state.specs.State.{State}
use Rattle.shell_state.specs.declared.stop.Stop.{Stop}
use Rattle.shell_state.specs.declared.stop.Stop.TheVariants as stop
use Rattle.word_meaning.specs.Limits.{fields_fit}

-- the size of the fields so far leads to that of all, with the fields that are left, and so do their limits; or a limit
-- was passed
abbrev pub LeadsTo : Result ℕ Stop → (left all : List Text) → Type 0
LeadsTo (Ok size) left all = (size + size_of left ≡ size_of all) × ((at : State) → fields_fit 0 all at ≡ fields_fit size left at)
LeadsTo (Err (stop.Fault why)) left all = (at : State) → fields_fit 0 all at ≡ Faulted why at.left at.host.asked
LeadsTo (Err stop.Failed) left all = ⊥
LeadsTo (Err stop.Memory) left all = ⊥
