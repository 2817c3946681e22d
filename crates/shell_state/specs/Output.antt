-- What is printed, and where it goes ("Redirections", "Command Substitution").
use Rattle.std.specs.Prelude.{◌≡◌, ℕ, List, [], ◌++◌, Bool, true, false, ◌||◌, length, nat_le, slice_index_or, slice_set, if◌then◌else◌, Result, Ok, Err}
use Rattle.eb_bytes.specs.Spending.{Spending}
use Rattle.eb_bytes.specs.Text.{Text}
use Rattle.shell_vars.specs.Value.{is_short}
use Rattle.shell_state.specs.State.{State}
use Rattle.shell_state.specs.Outcome.{Doing, Ended, ◌>>◌, refuse, Tells}
use Rattle.shell_state.specs.Spending.{left, spend, text_cost}
use Rattle.shell_state.specs.declared.fault.Fault.TheVariants as fault
use Rattle.shell_state.specs.declared.io.Io.{Io}
use Rattle.shell_state.specs.declared.io.Target.{Target}
use Rattle.shell_state.specs.declared.io.Target.TheVariants.{Capture, Drop}
use Rattle.shell_state.specs.declared.stop.Stop.{Stop}
use Rattle.shell_state.specs.declared.stop.Stop.TheVariants as stop

-- what a substitution captured, with a text at its end
abbrev pub with_text : ℕ → Text → List Text → Text
with_text i t cs = slice_index_or cs i [] ++ t

-- what all captured, with a text at the end of one; to a substitution that is not open nothing can be put
abbrev pub captured : ℕ → Text → List Text → List Text
captured i t cs = slice_set cs i (with_text i t cs)

-- whether it may be put there: what one captures has at most 1,048,576 bytes
abbrev pub may_capture : ℕ → Text → List Text → Bool
may_capture i t cs = nat_le (length cs) i || is_short (with_text i t cs)

-- with a text put where an output goes
abbrev pub put : Target → Text → Io → Io
put Drop t io = io
put (Capture i) t io = record io { captures = captured i t io.captures }

-- whether it may be put there
abbrev pub may_put : Target → Text → Io → Bool
may_put Drop t io = true
may_put (Capture i) t io = may_capture i t io.captures

-- puts a text where an output goes
abbrev pub puts : Target → Text → Doing (Unit {0})
puts target t = λ at.
    if may_put target t at.io then Ended tt (record at { io = put target t at.io }) else refuse fault.ValueSize at

-- prints a text, which is paid first, also where it goes nowhere
abbrev pub prints : Text → Doing (Unit {0})
prints t = spend (text_cost t) >> (λ at. puts at.io.out t at)

-- an answer says whether a text was put: it was, as it may be; or it may not, or there is no room, and nothing changed
abbrev pub Puts : {T : Type 0} → Result (Unit {0}) Stop → (may : Bool) → (with old new : T) → Type 0
Puts (Ok done) may with old new = (may ≡ true) × (new ≡ with)
Puts (Err (stop.Fault why)) may with old new = (may ≡ false) × (why ≡ fault.ValueSize) × (new ≡ old)
Puts (Err stop.Failed) may with old new = ⊥
Puts (Err stop.Memory) may with old new = new ≡ old

-- an answer of a call that prints is the one of `prints` in a state that has its outputs and its budget, whatever else
-- that state has
abbrev pub Prints : Result (Unit {0}) Stop → Text → (old new : Io) → (before after : Spending) → Type 0
Prints result t old new before after =
    (at : State) → at.io ≡ old → at.left ≡ left before
    → Tells result (prints t at) (record at { io = new; left = left after })
