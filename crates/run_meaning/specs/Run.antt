-- The run of a command ("Shell Commands").
use Rattle.std.specs.Prelude.{ℕ, zero, suc, codes}
use Rattle.eb_bytes.specs.Text.{Text}
use Rattle.eb_syntax.specs.declared.tree.AP.TheOpen.{Command-F}
use Rattle.eb_syntax.specs.declared.tree.Command.{Command, out-Command}
use Rattle.eb_syntax.specs.declared.tree.Compound.{out-Compound}
use Rattle.eb_syntax.specs.declared.tree.Items.{Items}
use Rattle.shell_functions.specs.Funcs.{with_body}
use Rattle.shell_state.specs.Host.{Begins}
use Rattle.shell_state.specs.State.{State}
use Rattle.shell_state.specs.Outcome.{Doing, ◌>>◌, pure, refuse, change}
use Rattle.shell_state.specs.Spending.{script_cost, spend, step}
use Rattle.shell_state.specs.declared.fault.Fault.TheVariants as fault
use Rattle.run_meaning.specs.Builtins.{Plain}
use Rattle.run_meaning.specs.Compounds.{compound_at, is_select}
use Rattle.run_meaning.specs.Declarations.{declared}
use Rattle.run_meaning.specs.Ends.{End, status}
use Rattle.run_meaning.specs.Layers.{CommandLayer}
use Rattle.run_meaning.specs.Lists.{items, unless_refused}
use Rattle.run_meaning.specs.Loops.{spent}
use Rattle.run_meaning.specs.Redirections.{under}
use Rattle.run_meaning.specs.Simple.{simple}
use Rattle.run_meaning.specs.Subshells.{substitution}

-- with this body for the function of this name
abbrev pub defining : Text → Command → State → State
defining name body at = record at { funcs = with_body name body at.funcs }

module _ (plain : Plain) (begins : Begins) where
  module _ (again : Command → Doing End) where
    -- one command, in which a loop may make so many turns
    abbrev pub command_at : ℕ → CommandLayer → Doing End
    command_at n (Command-F.Compound c rs) =
        unless_refused (is_select (out-Compound c)) (fault.Unsupported (codes "select"))
        (under (substitution again) rs (compound_at again n (out-Compound c)))
    command_at n (Command-F.FuncDef f) = change (defining f.name f.body) >> status 0
    command_at n (Command-F.Coproc c) = refuse (fault.Unsupported (codes "coproc"))
    command_at n (Command-F.Decl d) = declared plain again d
    command_at n (Command-F.Simple s) = simple plain begins again s

  -- the run of a command. The number is at least the steps that are left: each command spends one, so commands inside
  -- of commands are run with one less.
  unfoldable pub run : ℕ → Command → Doing End
  run zero c = spent
  run (suc n) c = step >> command_at (λ d. run n d) n (out-Command c)

  -- the run of a script of so many bytes by itself, which opens nothing. A `return` ends it.
  unfoldable pub whole : ℕ → (bytes : ℕ) → Items → Doing (Unit {0})
  whole n bytes script = spend (script_cost bytes) >> items (run n) script >> pure tt
