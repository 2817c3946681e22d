-- What holds of every run.
use Rattle.std.specs.Prelude.{◌≡◌, ℕ, ◌≤◌, Bool, List, [], ◌∷◌, Option, Some}
use Rattle.eb_bytes.specs.Text.{Text}
use Rattle.eb_syntax.specs.declared.parts.DeclName.{DeclName}
use Rattle.eb_syntax.specs.declared.tree.Command.{Command, out-Command}
use Rattle.eb_syntax.specs.declared.tree.Items.{Items}
use Rattle.eb_syntax.specs.declared.tree.Redir.{Redir}
use Rattle.shell_state.specs.State.{State}
use Rattle.shell_state.specs.Outcome.{Doing, Ended, ◌>>◌, left_of, asked_of}
use Rattle.shell_state.specs.Spending.{step}
use Rattle.shell_state.specs.Host.{Begins, Begun, Finished, Sourced, Refused, NotMine, Lasts, Later}
use Rattle.run_meaning.specs.Builtins.{Argument, Plain}
use Rattle.run_meaning.specs.Ends.{End, Goes}
use Rattle.run_meaning.specs.Loops.{looping}
use Rattle.run_meaning.specs.Redirections.{under}
use Rattle.run_meaning.specs.Run.{command_at, run, whole}
use Rattle.run_meaning.specs.Simple.{call, source}
use Rattle.run_meaning.specs.Subshells.{host_after, subshell, substitution}
use Rattle.word_meaning.specs.Closing.{Closes, SameOpen}

-- `Agrees` says of a list of names that two hosts know the same of them
module _ (Agrees : List Text → Type 0) where
  -- what the second host does is what the first does, as long as they agree on the names asked
  abbrev pub Follows : Begun → Begun → Type 0
  Follows (Finished status output at) c = Agrees at.host.asked → c ≡ Finished status output at
  Follows (Sourced script bytes at next) c =
      Agrees at.host.asked → (other : State → Begun) × (c ≡ Sourced script bytes at other) × ((p : State) → Follows (next p) (other p))
  Follows (Refused fault left asked) c = Agrees asked → c ≡ Refused fault left asked
  Follows NotMine c = c ≡ NotMine

  pub record Alike (b c : Begins) : Type 0 where
    pub lasts : (alone : Bool) (name : Text) (args : List Text) (at : State) → Lasts at (b alone name args at)
    pub follows : (alone : Bool) (name : Text) (args : List Text) (at : State) → Follows (b alone name args at) (c alone name args at)

-- a part gives no steps back and loses no name that was asked
abbrev pub Keeps : {A : Type 0} → Doing A → Type 0
Keeps p = (at : State) → Later at (left_of (p at)) (asked_of (p at))

-- nor do the builtins that act on no run
pub record KeepPlain (plain : Plain) : Type 0 where
  pub acts : (name : Text) (args : List Text) → Keeps (plain.acts name args)
  pub declares : (declaration : DeclName) (options : List Text) (args : List Argument) → Keeps (plain.declares declaration options args)

-- what stands behind a name
abbrev pub Scene : Type 0
Scene = Text → Option Items

-- two scenes have the same behind each of these names
abbrev pub Agree : Scene → Scene → List Text → Type 0
Agree s u [] = Unit {0}
Agree s u (x ∷ xs) = (s x ≡ u x) × Agree s u xs

-- a host by itself, whatever it is asked for
abbrev pub Always : List Text → Type 0
Always xs = Unit {0}

abbrev pub Steady : Begins → Type 0
Steady b = Alike Always b b

-- hosts that are alike as long as their scenes agree on the names asked give the same run
abbrev pub NamesAskedDetermine : Type 0
NamesAskedDetermine =
    (plain : Plain) → KeepPlain plain → (s u : Scene) (b c : Begins) → Alike (Agree s u) b c
    → (n : ℕ) (x : Command) (at : State) → at.left ≤ n → Agree s u (asked_of (run plain b n x at))
    → run plain c n x at ≡ run plain b n x at

-- the run is the same for every number that is at least the steps left
abbrev pub StepsSuffice : Type 0
StepsSuffice =
    (plain : Plain) → KeepPlain plain → (b : Begins) → Steady b
    → (m n : ℕ) (x : Command) (at : State) → at.left ≤ m → at.left ≤ n → run plain b m x at ≡ run plain b n x at

-- where the number is at least the steps left, a run is one command, with runs of the same number inside
abbrev pub RunUnfolds : Type 0
RunUnfolds =
    (plain : Plain) → KeepPlain plain → (b : Begins) → Steady b
    → (n : ℕ) (x : Command) (at : State) → at.left ≤ n
    → run plain b n x at ≡ (step >> command_at plain b (run plain b n) n (out-Command x)) at

-- no step is given back, and no name that was asked is lost
abbrev pub RunsKeep : Type 0
RunsKeep =
    (plain : Plain) → KeepPlain plain → (b : Begins) → Steady b
    → (n : ℕ) (x : Command) (at : State) → at.left ≤ n → Later at (left_of (run plain b n x at)) (asked_of (run plain b n x at))

-- the same of whole scripts
abbrev pub NamesAskedDetermineScripts : Type 0
NamesAskedDetermineScripts =
    (plain : Plain) → KeepPlain plain → (s u : Scene) (b c : Begins) → Alike (Agree s u) b c
    → (n bytes : ℕ) (i : Items) (at : State) → at.left ≤ n → Agree s u (asked_of (whole plain b n bytes i at))
    → whole plain c n bytes i at ≡ whole plain b n bytes i at

abbrev pub StepsSufficeForScripts : Type 0
StepsSufficeForScripts =
    (plain : Plain) → KeepPlain plain → (b : Begins) → Steady b
    → (m n bytes : ℕ) (i : Items) (at : State) → at.left ≤ m → at.left ≤ n → whole plain b m bytes i at ≡ whole plain b n bytes i at

abbrev pub ScriptsKeep : Type 0
ScriptsKeep =
    (plain : Plain) → KeepPlain plain → (b : Begins) → Steady b
    → (n bytes : ℕ) (i : Items) (at : State) → at.left ≤ n
    → Later at (left_of (whole plain b n bytes i at)) (asked_of (whole plain b n bytes i at))

-- ---- what is closed at the end of a part

-- a command of the host closes what it opens: as it ends, and where it hands out a script
abbrev pub ClosesTo : State → Begun → Type 0
ClosesTo before (Finished status output at) = SameOpen before at
ClosesTo before (Sourced script bytes at next) = SameOpen before at × ((p : State) → ClosesTo p (next p))
ClosesTo before (Refused fault left asked) = Unit {0}
ClosesTo before NotMine = Unit {0}

abbrev pub CloseHost : Begins → Type 0
CloseHost b = (alone : Bool) (name : Text) (args : List Text) (at : State) → ClosesTo at (b alone name args at)

-- so do the builtins that act on no run
pub record ClosePlain (plain : Plain) : Type 0 where
  pub acts : (name : Text) (args : List Text) → Closes (plain.acts name args)
  pub declares : (declaration : DeclName) (options : List Text) (args : List Argument) → Closes (plain.declares declaration options args)

-- then at the end of each command its frames, its redirections and all else that it opened are closed, and nothing else is
abbrev pub CommandsClose : Type 0
CommandsClose =
    (plain : Plain) → ClosePlain plain → (b : Begins) → CloseHost b → (n : ℕ) (x : Command) → Closes (run plain b n x)

abbrev pub WholeScriptsClose : Type 0
WholeScriptsClose =
    (plain : Plain) → ClosePlain plain → (b : Begins) → CloseHost b → (n bytes : ℕ) (i : Items) → Closes (whole plain b n bytes i)

-- ---- what is brought back at the end of a part

-- the state before, with what a subshell leaves
abbrev pub left_by_subshell : (before after : State) → State
left_by_subshell before after =
    record before {
      status = after.status;
      io = record before.io { captures = after.io.captures };
      host = host_after before.host after.host;
      left = after.left;
    }

-- a subshell ends any jump, and leaves its status, what the substitutions that were open captured, the reads, the names
-- asked and the steps; all else is what it was
abbrev pub SubshellsBringBack : Type 0
SubshellsBringBack =
    (again : Command → Doing End) (i : Items) (at after : State) (how : End)
    → subshell again i at ≡ Ended how after → (how ≡ Goes) × (after ≡ left_by_subshell at after)

-- so does a substitution, whose status is kept for a command without words
abbrev pub SubstitutionsBringBack : Type 0
SubstitutionsBringBack =
    (again : Command → Doing End) (i : Items) (at after : State) (output : Text)
    → substitution again i at ≡ Ended output after → after ≡ record (left_by_subshell at after) { last = Some after.status }

-- after a call the arguments, the loops that can be left, and what is open are what they were, and no jump is on its way
abbrev pub CallsBringBack : Type 0
CallsBringBack =
    (plain : Plain) (b : Begins) (again : Command → Doing End) (name : Text) (args : List Text) (body : Command) (at after : State) (how : End)
    → call plain b again name args body at ≡ Ended how after
    → (how ≡ Goes) × (after.args ≡ at.args) × (after.loops ≡ at.loops) × (after.opened ≡ at.opened)

-- after a script of the host the loops that can be left, and what is open
abbrev pub ScriptsBringBack : Type 0
ScriptsBringBack =
    (plain : Plain) (b : Begins) (again : Command → Doing End) (i : Items) (bytes : ℕ) (at after : State)
    → source plain b again i bytes at ≡ Ended tt after → (after.loops ≡ at.loops) × (after.opened ≡ at.opened)

-- after redirections the outputs are what they were, and so is what is open
abbrev pub RedirectionsEnd : Type 0
RedirectionsEnd =
    (sub : Items → Doing Text) (r : Redir) (rs : List Redir) (p : Doing End) (at after : State) (how : End)
    → under sub (r ∷ rs) p at ≡ Ended how after
    → (after.io.out ≡ at.io.out) × (after.io.err ≡ at.io.err) × (after.opened ≡ at.opened)

-- after a loop the loops that can be left
abbrev pub LoopsBringBack : Type 0
LoopsBringBack =
    (turns : Doing End) (at after : State) (how : End) → looping turns at ≡ Ended how after → after.loops ≡ at.loops
