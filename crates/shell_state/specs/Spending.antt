-- Steps (own): how they are spent, and what costs how many. A division drops the rest.
use Rattle.std.specs.Prelude.{◌≡◌, Result, ℕ, ◌+◌, ◌-◌, ◌/◌, List, [], ◌∷◌, length, nat_le, sum_by, if◌then◌else◌}
pub use Rattle.eb_bytes.specs.Spending.{Spending, left}
use Rattle.eb_bytes.specs.Text.{Text}
use Rattle.shell_state.specs.State.{State}
use Rattle.shell_state.specs.Outcome.{Doing, Ended, Faulted, Tells}
use Rattle.shell_state.specs.declared.fault.Fault.TheVariants as fault
use Rattle.shell_state.specs.declared.stop.Stop.{Stop}

-- spends so many steps; where fewer are left, all of them are spent and the run ends
unfoldable pub spend : ℕ → Doing (Unit {0})
spend n at =
    if nat_le n at.left
    then Ended tt (record at { left = at.left - n })
    else Faulted fault.StepsSpent 0 at.host.asked

-- a command that is run, a turn of a loop that begins, a command substitution that begins
abbrev pub step : Doing (Unit {0})
step = spend 1

-- of each text its bytes and one more
abbrev pub size_of : List Text → ℕ
size_of ts = sum_by (λ t. length t + 1) ts

-- a list of words, once it is expanded
abbrev pub list_cost : List Text → ℕ
list_cost ts = size_of ts / 64

-- one text, once it is expanded, or before it is printed
abbrev pub text_cost : Text → ℕ
text_cost t = list_cost (t ∷ [])

-- a script of so many bytes, before it is run, by the host or by `eval`
abbrev pub script_cost : ℕ → ℕ
script_cost bytes = 1 + bytes / 64

-- an answer of a call that spends is the one of `spend` in a state that has its budget, whatever else that state has
abbrev pub Spends : Result (Unit {0}) Stop → ℕ → (before after : Spending) → Type 0
Spends result n before after =
    (at : State) → at.left ≡ left before → Tells result (spend n at) (record at { left = left after })
