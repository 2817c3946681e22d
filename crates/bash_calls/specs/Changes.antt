-- How the code keeps what a redirection does.
use Rattle.std.specs.Prelude.{Bool, true, false, [], ◌∷◌, ◌++◌, Option, Some, None, if◌then◌else◌}
use Rattle.eb_bytes.specs.Text.{Text}
use Rattle.shell_state.specs.declared.io.Io.{Io}
use Rattle.shell_state.specs.declared.io.Target.TheVariants.{Drop}
use Rattle.bash_calls.specs.Redirections.{reading}
use Rattle.bash_calls.specs.declared.change.Change.{Change}
use Rattle.bash_calls.specs.declared.change.Change.TheVariants as change

-- a text, and a newline where one is wanted
abbrev pub ended : Bool → Text → Text
ended newline t = if newline then t ++ (10 ∷ []) else t

abbrev pub changed_by : Change → Io → Io
changed_by (change.Input t newline) io = reading (ended newline t.now) io
changed_by (change.Out target) io = record io { out = target }
changed_by (change.Err target) io = record io { err = target }
changed_by change.Neither io = record io { out = Drop; err = Drop }

-- what it makes of inputs and outputs; none is a refusal
abbrev pub changed : Option Change → Io → Option Io
changed None io = None
changed (Some c) io = Some (changed_by c io)

-- whether it changes the input
abbrev pub is_input_change : Change → Bool
is_input_change (change.Input t newline) = true
is_input_change (change.Out target) = false
is_input_change (change.Err target) = false
is_input_change change.Neither = false
