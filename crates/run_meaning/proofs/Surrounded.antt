-- What is asked beside of a relation that parts of runs respect, so that it holds of commands: that it holds of what is
-- opened and closed round a part, of loops, and of the commands of the host. `again` and `other` run the commands inside;
-- m and n are the turns that a loop may make.
use Rattle.std.proofs.Common.{ℕ, List, ◌∷◌, Bool}
use Rattle.eb_bytes.specs.Text.{Text}
use Rattle.eb_syntax.specs.declared.parts.DeclName.{DeclName}
use Rattle.eb_syntax.specs.declared.tree.Command.{Command}
use Rattle.eb_syntax.specs.declared.tree.Items.{Items}
use Rattle.eb_syntax.specs.declared.tree.Redir.{Redir}
use Rattle.shell_state.specs.Host.{Begins}
use Rattle.shell_state.specs.Opening.{bringing_back, opens, within}
use Rattle.shell_state.specs.Outcome.{Doing, ◌>>◌, change}
use Rattle.shell_state.specs.Spending.{script_cost, spend}
use Rattle.shell_state.specs.declared.opened.Opened.{Opened}
use Rattle.shell_state.specs.declared.opened.Opened.TheVariants as opened
use Rattle.run_meaning.specs.Assignments.{with_prefix, without_frame}
use Rattle.run_meaning.specs.Builtins.{Argument, Plain}
use Rattle.run_meaning.specs.Ends.{End}
use Rattle.run_meaning.specs.Layers.{RedirLayer}
use Rattle.run_meaning.specs.Lists.{items}
use Rattle.run_meaning.specs.Loops.{arith_turns, looping, while_turns}
use Rattle.run_meaning.specs.Redirections.{target, under}
use Rattle.run_meaning.specs.Simple.{called_back, entered, hosted, names_itself, script_back, script_begins, source}
use Rattle.run_meaning.specs.Subshells.{apart, capturing, unchanged}

pub record Surrounded (R : (A : Type 0) → Doing A → Doing A → Type 0) (m n : ℕ) (plain : Plain) (b c : Begins) (again other : Command → Doing End) : Type 1 where
  pub inside : (o : Opened) (f g : Doing End) → R End f g → R End (within o f) (within o g)
  pub redirected : (sub tub : Items → Doing Text) → ((l : RedirLayer) → R Text (target sub l) (target tub l)) → (r : Redir) (rs : List Redir) (f g : Doing End)
      → R End f g → R End (under sub (r ∷ rs) f) (under tub (r ∷ rs) g)
  pub framed : (p q : Doing (Unit {0})) (f g : Doing End) → R (Unit {0}) p q → R End f g
      → R End (bringing_back without_frame (change with_prefix >> p >> f)) (bringing_back without_frame (change with_prefix >> q >> g))
  pub captured : (f g : Doing End) → R End f g → R Text (apart capturing f) (apart capturing g)
  pub copied : (f g : Doing End) → R End f g → R Text (apart unchanged f) (apart unchanged g)
  pub called : (name : Text) (args : List Text) (f g : Doing End) → R End f g
      → R End (bringing_back called_back (opens opened.Call >> change (entered args) >> names_itself name >> f))
      (bringing_back called_back (opens opened.Call >> change (entered args) >> names_itself name >> g))
  pub sourced : (bytes : ℕ) (f g : Doing End) → R End f g
      → R End (bringing_back script_back (spend (script_cost bytes) >> opens opened.Source >> change script_begins >> f))
      (bringing_back script_back (spend (script_cost bytes) >> opens opened.Source >> change script_begins >> g))
  pub loops : (f g : Doing End) → R End f g → R End (looping f) (looping g)
  pub whiles : (until : Bool) (test body : Items) → R End (items again test) (items other test) → R End (items again body) (items other body)
      → R End (while_turns m until 0 (items again test) (items again body)) (while_turns n until 0 (items other test) (items other body))
  pub counts : (t u : Doing Bool) (f g : Doing End) (p q : Doing (Unit {0})) → R Bool t u → R End f g → R (Unit {0}) p q
      → R End (arith_turns m 0 t f p) (arith_turns n 0 u g q)
  pub hosts : (alone : Bool) (name : Text) (args : List Text)
      → ((i : Items) (bytes : ℕ) → R (Unit {0}) (source plain b again i bytes) (source plain c other i bytes))
      → R ℕ (λ at. hosted (source plain b again) name at (b alone name args at)) (λ at. hosted (source plain c other) name at (c alone name args at))
  pub acts : (name : Text) (args : List Text) → R ℕ (plain.acts name args) (plain.acts name args)
  pub declares : (d : DeclName) (options : List Text) (args : List Argument) → R ℕ (plain.declares d options args) (plain.declares d options args)
