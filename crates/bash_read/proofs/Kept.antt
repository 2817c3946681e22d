-- What `read` gives to names, as parts of a run: no step is given back.
use Rattle.std.proofs.Common.{ℕ, ◌+◌, ◌≤◌, List, [], ◌∷◌, length, Option, Some, None, arith}
use Rattle.std.specs.Prelude.{codes, map, if◌then◌else◌}
use Rattle.eb_bytes.specs.Text.{Text}
use Rattle.shell_marks.specs.Marks.{unquoted}
use Rattle.shell_marks.specs.declared.marked.Mark.{Mark}
use Rattle.shell_vars.specs.declared.value.Value.TheVariants as value
use Rattle.shell_state.specs.Outcome.{Doing, Outcome, Ended, Faulted, and_then, left_of, pure}
use Rattle.shell_state.specs.State.{State}
use Rattle.bash_assign.specs.Assignments.{assigns}
use Rattle.bash_assign.proofs.Assigned.{assigns_left, sets_left}
use Rattle.bash_split.specs.Fields.{fields}
use Rattle.bash_read.specs.Lines.{Line}
use Rattle.bash_read.specs.Options.{Options}
use Rattle.bash_read.specs.Parts.{texts_for}
use Rattle.bash_read.specs.Read.{array_of, assigns_each, assigns_line, assigns_names, ifs_of, takes}

-- what follows a part gives no steps back either
kept : {A B : Type 0} (o : Outcome A) (f : A → Doing B) (k : ℕ) → ((a : A) (p : State) → left_of (f a p) ≤ p.left)
    → left_of o ≤ k → left_of (and_then o f) ≤ k
kept (Ended a p) f k less le = let more : left_of (f a p) ≤ p.left = less a p in omega arith
kept (Faulted why l asked) f k less le = le

pub each_left : (names ts : List Text) (at : State) → left_of (assigns_each names ts at) ≤ at.left
each_left [] ts at = omega arith
each_left (name ∷ names) [] at = omega arith
each_left (name ∷ names) (t ∷ ts) at =
    kept (assigns name None t at) (λ _. assigns_each names ts) at.left (λ _ p. each_left names ts p) (assigns_left name None t at)

pub names_left : (ifs : Text) (ms : List Mark) (names : List Text) (at : State) → left_of (assigns_names ifs ms names at) ≤ at.left
names_left ifs ms [] at = assigns_left (codes "REPLY") None (unquoted ms) at
names_left ifs ms (name ∷ names) at = each_left (name ∷ names) (texts_for ifs (length names) ms) at

pub line_left : (ifs : Text) (ms : List Mark) (array : Option Text) (names : List Text) (at : State)
    → left_of (assigns_line ifs ms array names at) ≤ at.left
line_left ifs ms None names at = names_left ifs ms names at
line_left ifs ms (Some array) names at = sets_left array (value.Array (array_of (map unquoted (fields ifs ms)))) at

pub takes_left : (o : Options) (names : List Text) (l : Line) (at : State) → left_of (takes o names l at) ≤ at.left
takes_left o names l at =
    kept (assigns_line (ifs_of at.store) l.marks o.array names (record at { io = record at.io { place = at.io.place + l.taken } }))
    (λ _. pure (if l.ended then 0 else 1)) at.left (λ _ p. omega arith)
    (line_left (ifs_of at.store) l.marks o.array names (record at { io = record at.io { place = at.io.place + l.taken } }))
