-- What is open while a script runs, and what the end of each brings back (own).
use Rattle.std.specs.Prelude.{◌≡◌, ℕ, Bool, true, false, List, [], ◌∷◌, ◌++◌, length, unwrap_or, Option, Some, None, Result, Ok, Err, if◌then◌else◌}
use Rattle.eb_bytes.specs.Text.{Text}
use Rattle.shell_state.specs.declared.fault.Fault.TheVariants as fault
use Rattle.shell_state.specs.declared.io.Io.{Io}
use Rattle.shell_state.specs.declared.io.Target.TheVariants.{Capture}
use Rattle.shell_state.specs.declared.opened.Opened.{Opened}
use Rattle.shell_state.specs.declared.opened.Opened.TheVariants as opened
use Rattle.shell_state.specs.declared.stop.Stop.{Stop}
use Rattle.shell_state.specs.declared.stop.Stop.TheVariants as stop
use Rattle.bash_calls.specs.Nesting.{Nested, keeping}
use Rattle.bash_calls.specs.declared.calls.Calls.{Calls}
use Rattle.bash_calls.specs.declared.layer.Input.{Input}
use Rattle.bash_calls.specs.declared.layer.Layer.{Layer}
use Rattle.bash_calls.specs.declared.layer.Open.{Open}
use Rattle.bash_calls.specs.declared.layer.Open.TheVariants as open_
use Rattle.bash_calls.specs.declared.layer.Outputs.{Outputs}

-- ---- what is opened

abbrev pub kind_of : Open → Opened
kind_of (open_.Call args) = opened.Call
kind_of open_.Eval = opened.Eval
kind_of open_.Source = opened.Source
kind_of open_.Sub = opened.Sub
kind_of open_.Compound = opened.Compound
kind_of open_.Redirs = opened.Redirs

-- a call has arguments of its own
abbrev pub args_in : Open → List Text → List Text
args_in (open_.Call args) before = args
args_in open_.Eval before = before
args_in open_.Source before = before
args_in open_.Sub before = before
args_in open_.Compound before = before
args_in open_.Redirs before = before

-- in a call and in a script no loop round it can be left
abbrev pub loops_in : Open → ℕ → ℕ
loops_in (open_.Call args) before = 0
loops_in open_.Eval before = before
loops_in open_.Source before = 0
loops_in open_.Sub before = before
loops_in open_.Compound before = before
loops_in open_.Redirs before = before

-- the end of a call and of a subshell brings the arguments back
abbrev pub kept_args : Open → List Text → Option (List Text)
kept_args (open_.Call args) before = Some before
kept_args open_.Eval before = None
kept_args open_.Source before = None
kept_args open_.Sub before = Some before
kept_args open_.Compound before = None
kept_args open_.Redirs before = None

-- the end of a call, a script and a subshell brings the loops back
abbrev pub kept_loops : Open → ℕ → Option ℕ
kept_loops (open_.Call args) before = Some before
kept_loops open_.Eval before = None
kept_loops open_.Source before = Some before
kept_loops open_.Sub before = Some before
kept_loops open_.Compound before = None
kept_loops open_.Redirs before = None

abbrev pub is_sub : Open → Bool
is_sub (open_.Call args) = false
is_sub open_.Eval = false
is_sub open_.Source = false
is_sub open_.Sub = true
is_sub open_.Compound = false
is_sub open_.Redirs = false

abbrev pub input_of : Io → Input
input_of io = record { text = io.input; place = io.place }

abbrev pub outputs_of : Io → Outputs
outputs_of io = record { out = io.out; err = io.err }

-- what its end brings back; inputs and outputs are kept as a subshell begins, else as they are first changed
abbrev pub layer_of : Open → Calls → Layer
layer_of o c = record {
  kind = kind_of o;
  outputs = if is_sub o then Some (outputs_of c.io) else None;
  input = if is_sub o then Some (input_of c.io) else None;
  loops = kept_loops o c.nesting.loops;
  args = kept_args o c.nesting.args;
}

-- with one more open, inside all that is open
abbrev pub entered : Open → Calls → Calls
entered o c = record c {
  nesting = record {
    args = args_in o c.nesting.args;
    loops = loops_in o c.nesting.loops;
    opened = layer_of o c ∷ c.nesting.opened;
  };
}

-- ---- what is closed

abbrev pub outputs_back : Option Outputs → Io → Io
outputs_back None io = io
outputs_back (Some kept) io = record io { out = kept.out; err = kept.err }

abbrev pub input_back : Option Input → Io → Io
input_back None io = io
input_back (Some kept) io = record io { input = kept.text; place = kept.place }

-- all that was kept; what was captured stays
abbrev pub brought_back : Layer → List Layer → Calls → Calls
brought_back l ls c = record c {
  io = input_back l.input (outputs_back l.outputs c.io);
  nesting = record { args = unwrap_or l.args c.nesting.args; loops = unwrap_or l.loops c.nesting.loops; opened = ls };
}

abbrev pub closed_in : List Layer → Calls → Calls
closed_in [] c = c
closed_in (l ∷ ls) c = brought_back l ls c

-- without the innermost one that is open
abbrev pub closed : Calls → Calls
closed c = closed_in c.nesting.opened c

-- ---- redirections

-- with these inputs and outputs; the end of the innermost one that is open brings back what they were
abbrev pub redirected : (takes_input : Bool) → Io → Calls → Calls
redirected takes_input io c = record c {
  io = io;
  nesting = record c.nesting { opened = keeping takes_input (outputs_of c.io) (input_of c.io) c.nesting.opened };
}

-- standard output goes to a capture of its own, the innermost one
abbrev pub capturing : Io → Io
capturing io = record io { out = Capture (length io.captures); captures = io.captures ++ ([] ∷ []) }

-- ---- answers

-- it is the refusal of a redirection to this target, or out of memory
abbrev pub IsRefused : Stop → Text → Type 0
IsRefused (stop.Fault why) target = why ≡ fault.RedirectRefused target
IsRefused stop.Failed target = ⊥
IsRefused stop.Memory target = Unit {0}

-- an answer says whether one more was opened: it was, as it may be; or too many are open, or there is no room, and nothing
-- changed
abbrev pub Enters : Result (Unit {0}) Stop → (too_deep : Bool) → (with old new : Calls) → Type 0
Enters (Ok done) too_deep with old new = (too_deep ≡ false) × (new ≡ with)
Enters (Err (stop.Fault why)) too_deep with old new = (too_deep ≡ true) × (why ≡ fault.DepthLimit) × (new ≡ old)
Enters (Err stop.Failed) too_deep with old new = ⊥
Enters (Err stop.Memory) too_deep with old new = new ≡ old

-- an answer says what a redirection made of inputs and outputs; none is refused with its target, and nothing changed
abbrev pub Redirects : Result (Unit {0}) Stop → (takes_input : Bool) → Option Io → (target : Text) → (old new : Calls) → Type 0
Redirects (Ok done) takes_input made target old new = (io : Io) × (made ≡ Some io) × (new ≡ redirected takes_input io old)
Redirects (Err (stop.Fault why)) takes_input made target old new = (made ≡ None) × (why ≡ fault.RedirectRefused target) × (new ≡ old)
Redirects (Err stop.Failed) takes_input made target old new = ⊥
Redirects (Err stop.Memory) takes_input made target old new = new ≡ old
