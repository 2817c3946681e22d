-- What readers ensure, beside the words of the cursor's crate.
use Rattle.std.specs.Prelude.{◌≡◌, ℕ, ◌<◌, Bool, true, false, List, Result, Ok, Err}
use denote.Ref.{MutBor}
use Rattle.eb_grammar.specs.Peg.{Rule, No}
use Rattle.bash_cursor.specs.declared.error.LexErr.{LexErr}
use Rattle.bash_cursor.specs.Reads.{Reads, ReadsMarks, nodes_at}
use Rattle.bash_cursor.specs.Seen.{Seen}

-- whether the rule, whose nodes are of no use, has a reading
abbrev pub SkipsIf : {A : Type 0} → Rule (List A) → Seen → Bool → Seen → Type 0
SkipsIf p old true new = Reads p old (Ok (nodes_at p old.spot)) new
SkipsIf p old false new = (p old.spot ≡ Err No) × (new ≡ old)

-- what was read, and what a function makes of it
abbrev pub mapped : {A B E : Type 0} → (A → B) → Result A E → Result B E
mapped f (Ok a) = Ok (f a)
mapped f (Err e) = Err e

-- a reader that was handed over reads the rule wherever fewer than `room` nestings may still be opened; here-documents may begin or end at it
pub record ReadsMarksBelow {A : Type 0} (rule : ℕ → Rule A) (room : ℕ) (pre : MutBor Seen → Type 0) (post : MutBor Seen → Result A LexErr → MutBor Seen → Type 0) : Type 0 where
  pub callable : (c : MutBor Seen) → c.now.room < room → pre c
  pub reads : (old new : MutBor Seen) (r : Result A LexErr) → old.now.room < room → post old r new → ReadsMarks (rule old.now.room) old.now r new.now
