-- Simple commands ("Simple Commands", "Simple Command Expansion", "Command Search and Execution", "Shell Functions").
use Rattle.std.specs.Prelude.{ℕ, Bool, ◌&&◌, ◌==◌, List, [], ◌∷◌, ◌++◌, codes, length, unwrap_or, Option, Some, None, if◌then◌else◌}
use Rattle.std.specs.List.{join_with_byte}
use Rattle.eb_bytes.specs.Text.{Text}
use Rattle.eb_grammar.specs.Grammar.{script, Reading, Node, Refused as Unread, TooDeep}
use Rattle.eb_syntax.specs.declared.parts.DeclName.{DeclName}
use Rattle.eb_syntax.specs.declared.tree.Assign.{Assign}
use Rattle.eb_syntax.specs.declared.tree.Command.{Command}
use Rattle.eb_syntax.specs.declared.tree.Items.{Items}
use Rattle.eb_syntax.specs.declared.tree.Simple.{Simple, out-Simple}
use Rattle.shell_functions.specs.Funcs.{body_of}
use Rattle.shell_vars.specs.Calls.{local, pop_frame, push_frame}
use Rattle.shell_vars.specs.declared.kind.FrameKind.TheVariants as kind
use Rattle.shell_vars.specs.declared.value.Value.TheVariants as value
use Rattle.shell_state.specs.State.{State}
use Rattle.shell_state.specs.Outcome.{Doing, Outcome, Faulted, and_then, ◌>>=◌, ◌>>◌, pure, refuse, change}
use Rattle.shell_state.specs.Opening.{bringing_back, opens, within}
use Rattle.shell_state.specs.Output.{prints}
use Rattle.shell_state.specs.Spending.{script_cost, spend}
use Rattle.shell_state.specs.Host.{Begins, Begun, Finished, Sourced, Refused, NotMine}
use Rattle.shell_state.specs.declared.fault.Fault.TheVariants as fault
use Rattle.shell_state.specs.declared.opened.Opened.TheVariants as opened
use Rattle.run_meaning.specs.Assignments.{assigns, changes, prefixed}
use Rattle.run_meaning.specs.Builtins.{Plain, builtin, declaration_named, is_named}
use Rattle.run_meaning.specs.Declarations.{declares_words}
use Rattle.run_meaning.specs.Ends.{End, Goes, status}
use Rattle.run_meaning.specs.Lists.{items}
use Rattle.run_meaning.specs.Parts.{assigns_before, command_begins, redirs_before, redirs_of, words_of}
use Rattle.run_meaning.specs.Redirections.{under}
use Rattle.run_meaning.specs.Subshells.{substitution}
use Rattle.word_meaning.specs.Lists.{fields}

-- ---- calls of functions

-- its arguments, no loop to leave, and a frame of its own
abbrev pub entered : List Text → State → State
entered args at = record at { args = args; loops = 0; store = push_frame kind.Call at.store }

abbrev pub called_back : (before after : State) → State
called_back before after =
    record after { args = before.args; loops = before.loops; opened = before.opened; store = pop_frame after.store }

-- FUNCNAME is local, and has the function's name
abbrev pub names_itself : Text → Doing (Unit {0})
names_itself name = changes (codes "FUNCNAME") (local (codes "FUNCNAME") (Some (value.Text name)))

-- ---- scripts

-- no loop to leave, and the status 0
abbrev pub script_begins : State → State
script_begins at = record at { loops = 0; status = 0 }

abbrev pub script_back : (before after : State) → State
script_back before after = record after { loops = before.loops; opened = before.opened }

-- words joined by blanks
abbrev pub joined_words : List Text → Text
joined_words ts = join_with_byte 32 ts

-- the command of the host: what it prints is printed, each script that it hands out is run
abbrev pub hosted : (source : Items → ℕ → Doing (Unit {0})) → (name : Text) → State → Begun → Outcome ℕ
hosted source name at (Finished status output after) = (prints output >> pure status) after
hosted source name at (Sourced script bytes after next) = and_then (source script bytes after) (λ done p. hosted source name p (next p))
hosted source name at (Refused why left asked) = Faulted why left asked
hosted source name at NotMine = refuse (fault.CommandRefused name) at

-- whether nothing is open, and no assignments stand before the command
abbrev pub stands_alone : List Assign → State → Bool
stands_alone front at = length front == 0 && length at.opened == 0

-- the status of a command without words: that of its last substitution, or 0
abbrev pub last_status : State → ℕ
last_status at = unwrap_or at.last 0

module _ (plain : Plain) (begins : Begins) (again : Command → Doing End) where
  -- a function runs until its body ends or returns; its redirections are made inside
  unfoldable pub call : (name : Text) → List Text → Command → Doing End
  call name args body =
      bringing_back called_back (opens opened.Call >> change (entered args) >> names_itself name >> again body) >> pure Goes

  -- a script of the host, of so many bytes, runs until it ends or returns
  unfoldable pub source : Items → ℕ → Doing (Unit {0})
  source script bytes =
      bringing_back script_back (spend (script_cost bytes) >> opens opened.Source >> change script_begins >> items again script) >> pure tt

  -- a text that was read, in the loops and the call round it
  abbrev pub evaluated : Text → Reading → Doing End
  evaluated t (Node i) = spend (script_cost (length t)) >> within opened.Eval (items again i)
  evaluated t (Unread line) = refuse (fault.EvalRefused line)
  evaluated t (TooDeep line) = refuse (fault.EvalDeep line)

  abbrev pub by_host : Bool → Text → List Text → Doing End
  by_host alone name args = (λ at. hosted source name at (begins alone name args at)) >>= status

  -- the builtins that neither run commands nor jump, then the commands of the host
  abbrev pub by_plain : Bool → Text → List Text → Doing End
  by_plain alone name args = if plain.is_plain name then plain.acts name args >>= status else by_host alone name args

  abbrev pub by_builtin : Bool → Text → List Text → Option (Doing End) → Doing End
  by_builtin alone name args None = by_plain alone name args
  by_builtin alone name args (Some act) = act

  abbrev pub by_eval : Bool → Text → List Text → Doing End
  by_eval alone name args =
      if is_named name (codes "eval")
      then evaluated (joined_words args) (script (joined_words args))
      else by_builtin alone name args (builtin name args)

  abbrev pub by_function : Bool → Text → List Text → Option Command → Doing End
  by_function alone name args None = by_eval alone name args
  by_function alone name args (Some body) = call name args body

  -- a declaration also where a function has its name; then functions, builtins, and the commands of the host
  abbrev pub by_name : Bool → Text → List Text → Option DeclName → Doing End
  by_name alone name args (Some declaration) = declares_words plain declaration args >>= status
  by_name alone name args None = λ at. by_function alone name args (body_of name at.funcs) at

  unfoldable pub invoked : Bool → Text → List Text → Doing End
  invoked alone name args = by_name alone name args (declaration_named name)

  -- without a word the assignments assign, else they hold while the command runs
  abbrev pub performed : List Assign → List Text → Doing End
  performed front [] = assigns (substitution again) front >> (λ at. status (last_status at) at)
  performed front (name ∷ args) =
      λ at. prefixed (substitution again) front (invoked (stands_alone front at) name args) at

  -- the words are expanded, the redirections made in their order, then the assignments
  unfoldable pub simple : Simple → Doing End
  simple s =
      change command_begins >> fields (substitution again) (words_of (out-Simple s).tail) >>= (λ ts.
      under (substitution again) (redirs_before (out-Simple s).before ++ redirs_of (out-Simple s).tail)
      (performed (assigns_before (out-Simple s).before) ts))
