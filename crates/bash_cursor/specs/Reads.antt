-- What a reader of a rule ensures: the rule's outcome, unless memory fails, and an unchanged cursor after an `Err`.
use Rattle.std.specs.Prelude.{◌≡◌, ◌≢◌, ℕ, ◌<◌, Bool, true, false, List, [], Option, None, Some, Result, Ok, Err}
use denote.Ref.{MutBor}
use Rattle.eb_grammar.specs.Peg.{Spot, Outcome, Rule, Stop, No, Deep, ◌>>◌, pure, at, not_at}
use Rattle.bash_cursor.specs.declared.error.LexErr.{LexErr}
use Rattle.bash_cursor.specs.declared.error.LexErr.TheVariants.{NoParse, TooDeep, Memory}
use Rattle.bash_cursor.specs.Seen.{Seen}

abbrev pub stop_of : LexErr → Stop
stop_of NoParse = No
stop_of (TooDeep line) = Deep line
stop_of Memory = No

abbrev pub node_or : {A : Type 0} → A → Outcome A → A
node_or a (Ok x) = x.0
node_or a (Err e) = a

-- the rule, whose node is of no use
abbrev pub passed : {A : Type 0} → Rule A → Rule (Unit {0})
passed p = p >> pure tt

-- the cursor goes over the same text, with the same nestings open
abbrev pub StaysOn : Seen → Seen → Type 0
StaysOn old new = (new.text ≡ old.text) × (new.room ≡ old.room)

-- the same here-documents wait, and the same bodies were read
abbrev pub KeepsMarks : Seen → Seen → Type 0
KeepsMarks old new = (new.spot.waiting ≡ old.spot.waiting) × (new.spot.bodies ≡ old.spot.bodies)

-- the cursor goes to the place after the node; after an `Err` it is where it was
abbrev pub Reads : {A : Type 0} → Rule A → Seen → Result A LexErr → Seen → Type 0
Reads p old (Ok a) new = (p old.spot ≡ Ok (a, new.spot)) × (StaysOn old new × KeepsMarks old new)
Reads p old (Err e) new = (e ≢ Memory → p old.spot ≡ Err (stop_of e)) × (new ≡ old)

-- the same of a rule at which here-documents may begin or end
abbrev pub ReadsMarks : {A : Type 0} → Rule A → Seen → Result A LexErr → Seen → Type 0
ReadsMarks p old (Ok a) new = (p old.spot ≡ Ok (a, new.spot)) × StaysOn old new
ReadsMarks p old (Err e) new = (e ≢ Memory → p old.spot ≡ Err (stop_of e)) × (new ≡ old)

-- whether the rule, which opens no nesting and takes no memory, has a reading
abbrev pub Eats : Rule (Unit {0}) → Seen → Bool → Seen → Type 0
Eats p old true new = (p old.spot ≡ Ok (tt, new.spot)) × (StaysOn old new × KeepsMarks old new)
Eats p old false new = (p old.spot ≡ Err No) × (new ≡ old)

-- the same, with what it reads
abbrev pub FindsSome : {A : Type 0} → Rule A → Seen → A → Seen → Type 0
FindsSome p old a new = (p old.spot ≡ Ok (a, new.spot)) × (StaysOn old new × KeepsMarks old new)

abbrev pub FindsNone : {A : Type 0} → Rule A → Seen → Seen → Type 0
FindsNone p old new = (p old.spot ≡ Err No) × (new ≡ old)

abbrev pub Finds : {A : Type 0} → Rule A → Seen → Option A → Seen → Type 0
Finds p old (Some a) new = FindsSome p old a new
Finds p old None new = FindsNone p old new

-- whether the rule has a reading, which is not taken: what it says before it, and what its absence says
abbrev pub Stands : {A : Type 0} → Rule A → Seen → Bool → Type 0
Stands p c true = (at p c.spot ≡ Ok (tt, c.spot)) × (not_at p c.spot ≡ Err No)
Stands p c false = (at p c.spot ≡ Err No) × (not_at p c.spot ≡ Ok (tt, c.spot))

-- the nodes that a repetition reads, which always has a reading
unfoldable pub nodes_at : {A : Type 0} → Rule (List A) → Spot → List A
nodes_at p s = node_or [] (p s)

-- a repetition, whose nodes are of no use
abbrev pub Skips : {A : Type 0} → Rule (List A) → Seen → Seen → Type 0
Skips p old new = Reads p old (Ok (nodes_at p old.spot)) new

-- a reader that was handed over reads the rule wherever fewer than `room` nestings may still be opened
pub record ReadsBelow {A : Type 0} (rule : ℕ → Rule A) (room : ℕ) (pre : MutBor Seen → Type 0) (post : MutBor Seen → Result A LexErr → MutBor Seen → Type 0) : Type 0 where
  pub callable : (c : MutBor Seen) → c.now.room < room → pre c
  pub reads : (old new : MutBor Seen) (r : Result A LexErr) → old.now.room < room → post old r new → Reads (rule old.now.room) old.now r new.now
