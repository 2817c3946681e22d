-- Subshells ("Command Grouping", "Command Substitution").
use Rattle.std.specs.Prelude.{ℕ, ◌==◌, List, [], ◌∷◌, length, take, slice_index_or, Some, if◌then◌else◌}
use Rattle.bash_calls.specs.Calls.{capturing as captures}
use Rattle.eb_bytes.specs.Text.{Text}
use Rattle.eb_syntax.specs.declared.tree.Command.{Command}
use Rattle.eb_syntax.specs.declared.tree.Items.{Items}
use Rattle.shell_state.specs.State.{Context, State}
use Rattle.shell_state.specs.Outcome.{Doing, Ended, and_then, ◌>>=◌, ◌>>◌, pure, change}
use Rattle.shell_state.specs.Opening.{opens}
use Rattle.shell_state.specs.Spending.{step}
use Rattle.shell_state.specs.declared.io.Io.{Io}
use Rattle.shell_state.specs.declared.opened.Opened.TheVariants as opened
use Rattle.run_meaning.specs.Ends.{End, Goes}
use Rattle.run_meaning.specs.Lists.{items}

-- what the substitutions that were open before have captured by now, the outermost first
abbrev pub captured_outside : (before after : Io) → List Text
captured_outside before after = take (length before.captures) after.captures

-- of what the host keeps, the reads and the names asked stay as they are now
abbrev pub host_after : (before after : Context) → Context
host_after before after = record before { reads = after.reads; asked = after.asked }

-- the state in which a subshell began, with what stays of it: the status, what it put to the captures outside of it, the
-- reads, the names asked and the steps
abbrev pub returned : (before after : State) → State
returned before after =
    record before {
      status = after.status;
      io = record before.io { captures = captured_outside before.io after.io };
      host = host_after before.host after.host;
      left = after.left;
    }

-- what was captured for this substitution
abbrev pub output_of : (before after : State) → Text
output_of before after = slice_index_or after.io.captures (length before.io.captures) []

-- commands on a copy of the state, with what they captured; any jump ends there
unfoldable pub apart : (begins : State → State) → Doing End → Doing Text
apart begins commands =
    λ before. and_then ((opens opened.Sub >> change begins >> commands) before) (λ how after. Ended (output_of before after) (returned before after))

-- standard output goes to a capture of its own
abbrev pub capturing : State → State
capturing at = record at { io = captures at.io }

-- a byte before what is left of a text; a newline goes where nothing is left
abbrev pub byte_before : ℕ → Text → Text
byte_before b [] = if b == 10 then [] else b ∷ []
byte_before b (c ∷ t) = b ∷ c ∷ t

-- without the newlines at its end
abbrev pub trimmed : Text → Text
trimmed [] = []
trimmed (b ∷ t) = byte_before b (trimmed t)

-- the status of a substitution, for a command that has no words
abbrev pub with_last : State → State
with_last at = record at { last = Some at.status }

abbrev pub unchanged : State → State
unchanged at = at

module _ (again : Command → Doing End) where
  -- "$(..)": its output without the newlines at its end
  unfoldable pub substitution : Items → Doing Text
  substitution i = step >> apart capturing (items again i) >>= (λ output. change with_last >> pure (trimmed output))

  -- "(..)"
  unfoldable pub subshell : Items → Doing End
  subshell i = apart unchanged (items again i) >> pure Goes
