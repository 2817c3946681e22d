-- What one part of a word comes to.
use Rattle.std.specs.Prelude.{◌≡◌, ℕ, ◌<◌, false, [], Result, Ok, Err}
use Rattle.eb_bytes.specs.Text.{Text}
use Rattle.shell_state.specs.Outcome.{Outcome, Faulted}
use Rattle.shell_state.specs.State.{State}
use Rattle.shell_state.specs.declared.fault.Fault.TheVariants as fault
use Rattle.shell_state.specs.declared.stop.Stop.{Stop}
use Rattle.shell_state.specs.declared.stop.Stop.TheVariants as stop
use Rattle.word_meaning.specs.Marks as meaning
use Rattle.word_meaning.specs.Tilde.{may_begin}
use Rattle.word_meaning.specs.declared.mode.Mode.{Mode}
use Rattle.word_meaning.specs.declared.mode.Tildes.{Tildes}
use Rattle.expand_parts.specs.Rest.{Sub, acted}
use Rattle.expand_parts.specs.declared.level.Act.{Act}
use Rattle.expand_parts.specs.declared.level.Act.TheVariants as act
use Rattle.expand_parts.specs.declared.level.Level.{Level}
use Rattle.expand_parts.specs.declared.level.Parts.{Parts as Open}
use Rattle.expand_parts.specs.declared.level.Use.{Use}
use Rattle.expand_parts.specs.declared.scene.Scene.{Scene}

-- a state has what a part is looked at by
pub record Sees (s : Scene) (at : State) : Type 0 where
  pub store : at.store ≡ s.vars.now.present
  pub args : at.args ≡ s.args.now
  pub opts : at.opts ≡ s.opts
  pub status : at.status ≡ s.status

-- a part, where commands are run in this way and n parts may still be opened in it, comes to this; nothing is spent or
-- changed, also where there is no room
abbrev pub Acts : Result Act Stop → Sub → Outcome meaning.Given → ℕ → State → Type 0
Acts (Ok a) sub o n at = o ≡ acted sub n a at
Acts (Err (stop.Fault why)) sub o n at = o ≡ Faulted why at.left at.host.asked
Acts (Err stop.Failed) sub o n at = ⊥
Acts (Err stop.Memory) sub o n at = Unit {0}

-- a part that is opened
abbrev pub level_of : Open → Mode → Tildes → Use → Level
level_of parts mode tildes used = record {
  parts = parts;
  at = 0;
  mode = mode;
  tildes = tildes;
  may_be_home = may_begin tildes;
  found = record { marks = []; has_no_elements = false };
  used = used;
}

-- it is opened, where one more may be
abbrev pub Opens : Result Act Stop → Open → Mode → Tildes → Use → ℕ → Type 0
Opens (Ok a) parts mode tildes used n = (0 < n) × (a ≡ act.Open (level_of parts mode tildes used))
Opens (Err (stop.Fault why)) parts mode tildes used n = (n ≡ 0) × (why ≡ fault.DepthLimit)
Opens (Err stop.Failed) parts mode tildes used n = ⊥
Opens (Err stop.Memory) parts mode tildes used n = Unit {0}

-- a form is refused, or there is no room
abbrev pub Refuses : Stop → Text → Type 0
Refuses (stop.Fault why) form = why ≡ fault.Unsupported form
Refuses stop.Failed form = ⊥
Refuses stop.Memory form = Unit {0}
