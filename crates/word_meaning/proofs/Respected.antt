-- What is said of two parts of runs, or of one, and holds of what is made of parts where it holds of the parts. Then it
-- holds of all expansions.
use Rattle.std.proofs.Common.{◌≡◌, ℕ, ℤ, List, [], ◌++◌, Bool, true, false, refl, sym, ap, ◌∙◌, append-nil}
use Rattle.std.proofs.Math.Nat.{min-le_right}
use Rattle.std.specs.Prelude.{nat_le, Result, Ok, Err}
use Rattle.bash_arith.specs.Outcome as arith_state
use Rattle.bash_arith.specs.Value.{arithmetic}
use Rattle.bash_assign.specs.Assignments.{changed}
use Rattle.bash_cond.specs.Arithmetic.{ends_as, evaluates, variables_of}
use Rattle.eb_bytes.specs.Text.{Text}
use Rattle.shell_state.specs.Host.{Later}
use Rattle.shell_state.specs.Outcome.{Outcome, Ended, Faulted, Doing, ◌>>=◌, and_then, asked_of, change, left_of, pure, refuse}
use Rattle.shell_state.specs.Spending.{spend}
use Rattle.shell_state.specs.State.{State}
use Rattle.shell_state.specs.declared.fault.Fault.{Fault}
use Rattle.shell_state.proofs.Kept.{Part, here, plain, pure_part, refuse_part, bind_part, change_part, state_part, spend_part}
use Rattle.shell_vars.specs.Store.{Store}
use Rattle.shell_vars.specs.declared.error.VarErr.{VarErr}
use Rattle.word_meaning.specs.Closing.{Closes, EndsClosed, SameOpen, open_in}
use Rattle.word_meaning.specs.Variables.{changes}
use Rattle.word_meaning.proofs.Evaluated.{EndsSame, arithmetic_same}
use Rattle.word_meaning.proofs.Frames.{KeepsFrames, SameFrames}

-- a change of the state that opens and closes nothing
abbrev pub KeepsOpen : (State → State) → Type 0
KeepsOpen f = (at : State) → SameOpen at (f at)

pub record Respected (R : (A : Type 0) → Doing A → Doing A → Type 0) : Type 1 where
  pub done : (A : Type 0) (a : A) → R A (pure a) (pure a)
  pub refused : (A : Type 0) (why : Fault) → R A (refuse why) (refuse why)
  pub bound : (A B : Type 0) (f g : Doing A) (h j : A → Doing B) → R A f g → ((a : A) → R B (h a) (j a)) → R B (f >>= h) (g >>= j)
  pub looked : (A : Type 0) (f g : State → Doing A) → ((x : State) → R A (f x) (g x)) → R A (λ at. f at at) (λ at. g at at)
  pub spent : (k : ℕ) → R (Unit {0}) (spend k) (spend k)
  pub evaluated : (t : Text) → R ℤ (evaluates t) (evaluates t)
  pub changed : (x : Text) (make : Store → Result Store VarErr) → KeepsFrames make → R (Unit {0}) (changes x make) (changes x make)
  pub altered : (f : State → State) → KeepsOpen f → R (Unit {0}) (change f) (change f)

-- ---- two runs side by side: no step is given back, no name is lost, and the second is the first

-- an evaluation gives no steps back, and asks for no names
ended_later : (t : Text) (o : arith_state.Outcome) (at : State) → Later at (left_of (ends_as t o at)) (asked_of (ends_as t o at))
ended_later t (arith_state.Ended n s) at = record { less = min-le_right s.left at.left; more = []; kept = sym (append-nil at.host.asked) }
ended_later t (arith_state.Faulted error s) at = record { less = min-le_right s.left at.left; more = []; kept = sym (append-nil at.host.asked) }
ended_later t (arith_state.Changed s o) at = ended_later t o at

changed_later : (x : Text) (r : Result Store VarErr) (at : State) → Later at (left_of (changed x r at)) (asked_of (changed x r at))
changed_later x (Ok s) at = here at
changed_later x (Err refused) at = here at

module _ (Agrees : List Text → Type 0) (front : (xs ys : List Text) → Agrees (xs ++ ys) → Agrees xs) (m n : ℕ) where
  abbrev pub SideBySide : (A : Type 0) → Doing A → Doing A → Type 0
  SideBySide A f g = Part Agrees front m n {A = A} f g

  evaluates_part : (t : Text) → SideBySide ℤ (evaluates t) (evaluates t)
  unfolding evaluates
  evaluates_part t at le lf = plain Agrees front at (evaluates t at) (ended_later t (arith_state.last (arithmetic t (variables_of at))) at)

  changes_part : (x : Text) (make : Store → Result Store VarErr) → SideBySide (Unit {0}) (changes x make) (changes x make)
  changes_part x make at le lf = plain Agrees front at (changes x make at) (changed_later x (make at.store) at)

  pub side_by_side : Respected SideBySide
  side_by_side = record {
    done = λ A a. pure_part Agrees front m n a;
    refused = λ A why. refuse_part Agrees front m n why;
    bound = λ A B f g h j. bind_part Agrees front m n f g h j;
    looked = λ A f g. state_part Agrees front m n f g;
    spent = λ k. spend_part Agrees front m n k;
    evaluated = λ t. evaluates_part t;
    changed = λ x make keeps. changes_part x make;
    altered = λ f keeps. change_part Agrees front m n f;
  }

-- ---- one run, which closes what it opens

abbrev pub Closing : (A : Type 0) → Doing A → Doing A → Type 0
Closing A f g = Closes f

from_open : {A : Type 0} (before at : State) (r : Outcome A) → SameOpen before at → EndsClosed at r → EndsClosed before r
from_open before at (Ended a after) e h = h ∙ e
from_open before at (Faulted why left asked) e h = tt

pub then_closed : {A B : Type 0} (at : State) (r : Outcome A) (h : A → Doing B) → EndsClosed at r → ((a : A) → Closes (h a)) → EndsClosed at (and_then r h)
then_closed at (Ended a p) h e k = from_open at p (h a p) e (k a p)
then_closed at (Faulted why left asked) h e k = tt

spend_at : (k : ℕ) (at : State) (b : Bool) → nat_le k at.left ≡ b → EndsClosed at (spend k at)
unfolding spend
spend_at k at true e = rw e refl
spend_at k at false e = rw e tt

with_kinds : (at : State) (s : Store) → SameFrames at.store (Ok s) → SameOpen at (record at { store = s })
with_kinds at s e = ap (λ ks. record (open_in at) { frames = ks }) e

changed_closed : (x : Text) (r : Result Store VarErr) (at : State) → SameFrames at.store r → EndsClosed at (changed x r at)
changed_closed x (Ok s) at h = with_kinds at s h
changed_closed x (Err refused) at h = tt

ended_closed : (t : Text) (o : arith_state.Outcome) (at : State) → EndsSame (variables_of at) o → EndsClosed at (ends_as t o at)
ended_closed t (arith_state.Ended n s) at h = with_kinds at s.store h
ended_closed t (arith_state.Faulted error s) at h = tt
ended_closed t (arith_state.Changed s o) at h = ended_closed t o at h

evaluates_closed : (t : Text) → Closes (evaluates t)
unfolding evaluates
evaluates_closed t at = ended_closed t (arith_state.last (arithmetic t (variables_of at))) at (arithmetic_same t (variables_of at))

pub closing : Respected Closing
closing = record {
  done = λ A a at. refl;
  refused = λ A why at. tt;
  bound = λ A B f g h j p q at. then_closed at (f at) h (p at) q;
  looked = λ A f g p at. p at at;
  spent = λ k at. spend_at k at (nat_le k at.left) refl;
  evaluated = λ t. evaluates_closed t;
  changed = λ x make keeps at. changed_closed x (make at.store) at (keeps at.store);
  altered = λ f keeps at. keeps at;
}
