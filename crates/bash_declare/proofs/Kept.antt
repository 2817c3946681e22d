-- Declarations give no steps back.
use Rattle.std.proofs.Common.{◌≡◌, ℕ, ◌≤◌, Bool, true, false, List, [], ◌∷◌, Option, Some, None, Result, Ok, Err, refl, arith}
use Rattle.std.specs.Prelude.{◌||◌, ◌==◌, find, length, map}
use Rattle.byte_class.specs.Class.{is_name}
use Rattle.eb_bytes.specs.Text.{Text}
use Rattle.eb_syntax.specs.declared.parts.DeclName.{DeclName}
use Rattle.shell_state.specs.Outcome.{Doing, Outcome, Ended, Faulted, and_then, left_of, pure}
use Rattle.shell_state.specs.Output.{may_put, prints, puts}
use Rattle.shell_state.specs.Spending.{spend, text_cost}
use Rattle.shell_state.specs.State.{State}
use Rattle.shell_state.proofs.Spent.{never_rises}
use Rattle.shell_vars.specs.Store.{Store}
use Rattle.shell_vars.specs.declared.error.VarErr.{VarErr}
use Rattle.bash_assign.proofs.Assigned.{changed_left}
use Rattle.bash_assign.specs.declared.assignment.Assignment.{Assignment}
use Rattle.bash_declare.specs.Declarations.{acts, acts_unless, changes, declares, declares_each, declares_name, declares_one, declares_value, is_no_name, named_by, shows, tells, told_by, unless_no_name}
use Rattle.bash_declare.specs.Effects.{attributes_of, given_in, marked_with, named_in, place_of, subscript_of}
use Rattle.bash_declare.specs.Options.{options_of}
use Rattle.bash_declare.specs.Shown.{line_of, told}
use Rattle.bash_declare.specs.declared.argument.Argument.{Argument}
use Rattle.bash_declare.specs.declared.argument.Argument.TheVariants as argument
use Rattle.bash_declare.specs.declared.options.Options.{Options}
use Rattle.bash_declare.specs.declared.options.Unknown.{Unknown}
use Rattle.bash_declare.specs.declared.shown.Told.{Told}

-- what follows a part gives no steps back either
kept : {A B : Type 0} (o : Outcome A) (f : A → Doing B) (k : ℕ) → ((a : A) (p : State) → left_of (f a p) ≤ p.left)
    → left_of o ≤ k → left_of (and_then o f) ≤ k
kept (Ended a p) f k less le = let more : left_of (f a p) ≤ p.left = less a p in omega arith
kept (Faulted why l asked) f k less le = le

pub changes_left : (name : Text) (make : Store → Result Store VarErr) (at : State) → left_of (changes name make at) ≤ at.left
changes_left name make at = changed_left name (make at.store) at

-- ---- what is declared

twice_left : (name : Text) (f g : Store → Result Store VarErr) (at : State)
    → left_of (and_then (changes name f at) (λ _. changes name g)) ≤ at.left
twice_left name f g at = kept (changes name f at) (λ _. changes name g) at.left (λ _ p. changes_left name g p) (changes_left name f at)

pub name_left : (d : DeclName) (o : Options) (t : Text) (at : State) → left_of (declares_name d o t at) ≤ at.left
name_left d o t at = twice_left t (λ s. named_in (place_of d o.global s) t s) (marked_with (attributes_of d o) t) at

pub value_left : (d : DeclName) (o : Options) (a : Assignment) (at : State) → left_of (declares_value d o a at) ≤ at.left
value_left d o a at =
    twice_left a.name (λ s. given_in (place_of d o.global s) a.name (subscript_of o.array a.given a.at) a.appends a.given s) (marked_with (attributes_of d o) a.name) at

pub one_left : (d : DeclName) (o : Options) (a : Argument) (at : State) → left_of (declares_one d o a at) ≤ at.left
one_left d o (argument.Said t) at = by (is_name t) refl
  where
    by : (b : Bool) → is_name t ≡ b → left_of (declares_one d o (argument.Said t) at) ≤ at.left
    by true e = rw e (name_left d o t at)
    by false e = rw e (omega arith)
one_left d o (argument.Assigns a) at = by (is_name a.name) refl
  where
    by : (b : Bool) → is_name a.name ≡ b → left_of (declares_one d o (argument.Assigns a) at) ≤ at.left
    by true e = rw e (value_left d o a at)
    by false e = rw e (omega arith)

pub each_left : (d : DeclName) (o : Options) (args : List Argument) (at : State) → left_of (declares_each d o args at) ≤ at.left
each_left d o [] at = omega arith
each_left d o (a ∷ more) at = kept (declares_one d o a at) (λ _. declares_each d o more) at.left (λ _ p. each_left d o more p) (one_left d o a at)

-- ---- what is shown

puts_left : (t : Text) (at : State) → left_of (puts at.io.out t at) ≤ at.left
puts_left t at = by (may_put at.io.out t at.io) refl
  where
    by : (b : Bool) → may_put at.io.out t at.io ≡ b → left_of (puts at.io.out t at) ≤ at.left
    by true e = rw e (omega arith)
    by false e = rw e (omega arith)

prints_left : (t : Text) (at : State) → left_of (prints t at) ≤ at.left
prints_left t at = kept (spend (text_cost t) at) (λ _ p. puts p.io.out t p) at.left (λ _ p. puts_left t p) (never_rises (text_cost t) at)

tells_left : (it : Told) (at : State) → left_of (tells it at) ≤ at.left
tells_left it at = kept (prints it.text at) (λ _. pure it.status) at.left (λ _ p. omega arith) (prints_left it.text at)

pub told_left : (functions : Bool) (names : List Text) (at : State) → left_of (told_by functions names at) ≤ at.left
told_left true names at = omega arith
told_left false names at = by (find is_no_name names)
  where
    by : (found : Option Text) → left_of (unless_no_name found (λ p. pure (told (line_of p.store) names) p) at) ≤ at.left
    by None = omega arith
    by (Some t) = omega arith

pub shows_left : (o : Options) (names : List Text) (at : State) → left_of (shows o names at) ≤ at.left
shows_left o names at = kept (told_by o.functions names at) tells at.left tells_left (told_left o.functions names at)

-- ---- the whole

pub acts_left : (d : DeclName) (o : Options) (args : List Argument) (at : State) → left_of (acts d o args at) ≤ at.left
acts_left d o args at = by (o.functions || o.print) refl (length args == 0) refl
  where
    by : (b : Bool) → (o.functions || o.print) ≡ b → (c : Bool) → (length args == 0) ≡ c → left_of (acts d o args at) ≤ at.left
    by true e true f = rw e (rw f (omega arith))
    by true e false f = rw e (rw f (shows_left o (map named_by args) at))
    by false e c f = rw e (kept (declares_each d o args at) (λ _. pure 0) at.left (λ _ p. omega arith) (each_left d o args at))

pub declares_left : (d : DeclName) (ws : List Text) (args : List Argument) (at : State) → left_of (declares d ws args at) ≤ at.left
declares_left d ws args at = by (options_of d ws)
  where
    by : (r : Result Options Unknown) → left_of (acts_unless d r args at) ≤ at.left
    by (Ok o) = acts_left d o args at
    by (Err unknown) = omega arith
