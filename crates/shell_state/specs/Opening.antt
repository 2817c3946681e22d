-- What is open while a part runs, and is closed at its end (own).
use Rattle.std.specs.Prelude.{ℕ, Bool, true, false, ◌&&◌, List, ◌∷◌, length, filter, nat_le, if◌then◌else◌}
use Rattle.shell_state.specs.State.{State}
use Rattle.shell_state.specs.Outcome.{Doing, Ended, ◌>>=◌, ◌>>◌, pure, change, refuse}
use Rattle.shell_state.specs.declared.fault.Fault.TheVariants as fault
use Rattle.shell_state.specs.declared.opened.Opened.{Opened}
use Rattle.shell_state.specs.declared.opened.Opened.TheVariants as opened

-- all that may be open counts but redirections
abbrev pub is_counted : Opened → Bool
is_counted opened.Call = true
is_counted opened.Eval = true
is_counted opened.Source = true
is_counted opened.Sub = true
is_counted opened.Compound = true
is_counted opened.Redirs = false

-- how many are open
abbrev pub depth : List Opened → ℕ
depth os = length (filter is_counted os)

-- so many may be open at once
abbrev pub depth_limit : ℕ
depth_limit = 200

-- whether one more may not be open
abbrev pub is_too_deep : Opened → List Opened → Bool
is_too_deep o os = is_counted o && nat_le depth_limit (depth os)

-- opens one more, inside all that is open
unfoldable pub opens : Opened → Doing (Unit {0})
opens o at =
    if is_too_deep o at.opened
    then refuse fault.DepthLimit at
    else Ended tt (record at { opened = o ∷ at.opened })

-- a part, after which something of the state in which it began comes back; after a fault nothing does
abbrev pub bringing_back : {A : Type 0} → ((before after : State) → State) → Doing A → Doing A
bringing_back back p = λ before. (p >>= (λ a. change (back before) >> pure a)) before

-- what is open is what was open
abbrev pub closed : (before after : State) → State
closed before after = record after { opened = before.opened }

-- a part while one more is open
abbrev pub within : {A : Type 0} → Opened → Doing A → Doing A
within o p = bringing_back closed (opens o >> p)
