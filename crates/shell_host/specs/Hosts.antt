-- What calls of a host say of its commands (own).
use Rattle.std.specs.Prelude.{◌≡◌, ℕ, ◌≤◌, ◌<◌, Bool, true, false, List, [], ◌∷◌, length, Result, Ok, Err}
use Rattle.eb_bytes.specs.Spending.{Spending}
use Rattle.shell_vars.specs.Stores.{Stores}
use Rattle.shell_vars.specs.Store.{kinds}
use Rattle.shell_functions.specs.Funcs.{Tables}
use Rattle.shell_state.specs.State.{Context, State}
use Rattle.shell_state.specs.Host.{Begun, Finished, Sourced, Refused, NotMine}
use Rattle.shell_state.specs.Spending.{left}
use Rattle.shell_state.specs.declared.opts.Opts.{Opts}
use Rattle.shell_state.specs.declared.stop.Stop.{Stop}
use Rattle.shell_state.specs.declared.stop.Stop.TheVariants as stop
use Rattle.shell_host.specs.declared.host.HostStep.{HostStep}
use Rattle.shell_host.specs.declared.host.HostStep.TheVariants as step

-- at the end of a script with this status
abbrev pub ended : ℕ → State → State
ended status rest = record rest { status = status }

-- the steps that are left once a command did what it does; one that is not the host's spends none
abbrev pub left_behind : State → Begun → ℕ
left_behind before (Finished status output at) = at.left
left_behind before (Sourced script bytes at next) = at.left
left_behind before (Refused fault left asked) = left
left_behind before NotMine = before.left

-- an answer, in the state at that moment, is what the command does from the state before, and a script that it hands out
-- is open from then on. Where the call was stopped otherwise, no more steps were spent than the command spends.
abbrev pub Answers : Result HostStep Stop → Begun → (before at : State) → (old new : List (State → Begun)) → Type 0
Answers (Ok (step.Done status output)) begun before at old new = (begun ≡ Finished status output at) × (new ≡ old)
Answers (Ok (step.Source parsed)) begun before at old new =
    (next : State → Begun) × (begun ≡ Sourced parsed.script (length parsed.text) at next) × (new ≡ next ∷ old)
Answers (Ok step.NotMine) begun before at old new = (begun ≡ NotMine) × (new ≡ old)
Answers (Err (stop.Fault fault)) begun before at old new = begun ≡ Refused fault at.left at.host.asked
Answers (Err stop.Failed) begun before at old new = left_behind before begun ≤ at.left
Answers (Err stop.Memory) begun before at old new = left_behind before begun ≤ at.left

-- the same of the command that handed out the innermost open script, which is closed
abbrev pub Resumes : Result HostStep Stop → (before at : State) → (old new : List (State → Begun)) → Type 0
Resumes result before at [] new = ⊥
Resumes result before at (next ∷ old) new = Answers result (next before) before at old new

-- a script that is handed out is open from then on, and no other is opened or closed
abbrev pub Opens : Result HostStep Stop → (old new : List (State → Begun)) → Type 0
Opens (Ok (step.Done status output)) old new = new ≡ old
Opens (Ok (step.Source parsed)) old new = (next : State → Begun) × (new ≡ next ∷ old)
Opens (Ok step.NotMine) old new = new ≡ old
Opens (Err stopped) old new = Unit {0}

-- the same where the innermost open script is closed first
abbrev pub Closes : Result HostStep Stop → (old new : List (State → Begun)) → Type 0
Closes result [] new = ⊥
Closes result (next ∷ old) new = Opens result old new

-- whether an answer is that a file could not be read
abbrev pub is_failed : Result HostStep Stop → Bool
is_failed (Ok step) = false
is_failed (Err (stop.Fault fault)) = false
is_failed (Err stop.Failed) = true
is_failed (Err stop.Memory) = false

-- what a subshell loses of what a host keeps: all but the reads and the names asked
abbrev pub lost : Context → Context
lost context = record context { reads = []; asked = [] }

-- what the end of a subshell brings back, and how many scripts were open as it began
pub record Saved : Type 0 where
  pub context : Context
  pub scripts : ℕ

-- a subshell that begins while a host keeps this and these scripts are open
abbrev pub saved_at : Context → List (State → Begun) → Saved
saved_at context pending = record { context = lost context; scripts = length pending }

-- how many scripts were open as the innermost open subshell began
abbrev pub opened_before : List Saved → ℕ
opened_before [] = 0
opened_before (s ∷ ss) = s.scripts

-- a script is open that was handed out since the innermost open subshell began
abbrev pub MayFinish : List Saved → List (State → Begun) → Type 0
MayFinish saved pending = opened_before saved < length pending

-- a subshell is open, and just the scripts are open that were open as it began
abbrev pub MayEnd : List Saved → List (State → Begun) → Type 0
MayEnd [] pending = ⊥
MayEnd (s ∷ ss) pending = length pending ≡ s.scripts

-- with what the end of a subshell brings back, and the reads and the names asked as they are then
abbrev pub brought_back : (before now : Context) → Context
brought_back before now = record before { reads = now.reads; asked = now.asked }

-- the innermost open subshell ends
abbrev pub Ends : (old : List Saved) → Context → (new : List Saved) → Context → Type 0
Ends [] now new after = ⊥
Ends (s ∷ ss) now new after = (new ≡ ss) × (after ≡ brought_back s.context now)

-- what a host works on
pub record Held : Type 0 where
  pub vars : Stores
  pub funcs : Tables
  pub budget : Spending
  pub context : Context
  pub pending : List (State → Begun)

abbrev pub held : Stores → Tables → Spending → Context → List (State → Begun) → Held
held vars funcs budget context pending =
    record { vars = vars; funcs = funcs; budget = budget; context = context; pending = pending }

-- a state with what a host works on and these options, and with all else of another state
abbrev pub seen : Held → Opts → State → State
seen held opts rest =
    record rest {
      store = held.vars.present;
      funcs = held.funcs.present;
      opts = opts;
      host = held.context;
      left = left held.budget;
    }

-- what opened the frames, and what the ends of open subshells bring back, is as it was
pub record KeepsFrames (vars : Stores) (funcs : Tables) (vars-after : Stores) (funcs-after : Tables) : Type 0 where
  pub frames : kinds vars-after.present ≡ kinds vars.present
  pub stores : vars-after.saved ≡ vars.saved
  pub tables : funcs-after.saved ≡ funcs.saved

-- what `begin` says: the answer is what the command does, whatever else the state has
abbrev pub DoesBegin : Result HostStep Stop → (State → Begun) → Opts → (old new : Held) → Type 0
DoesBegin result command opts old new =
    (rest : State)
    → Answers result (command (seen old opts rest)) (seen old opts rest) (seen new opts rest) old.pending new.pending

-- what `finish` says: the answer is what the command that handed out the innermost open script does at its end
abbrev pub DoesFinish : Result HostStep Stop → (status : ℕ) → Opts → (old new : Held) → Type 0
DoesFinish result status opts old new =
    (rest : State)
    → Resumes result (seen old opts (ended status rest)) (seen new opts (ended status rest)) old.pending new.pending
