-- The laws of the notation and of here-documents.
use Rattle.std.specs.Prelude.{◌≡◌, ℕ, ◌<◌, ◌≤◌, List, [], ◌++◌, length, map, Option, Ok, Err}
use Rattle.eb_syntax.specs.declared.parts.HereOp.{HereOp}
use Rattle.eb_syntax.specs.declared.tree.HereBody.{HereBody}
use Rattle.eb_syntax.specs.declared.tree.Items.{Items}
use Rattle.eb_syntax.specs.declared.tree.AP.TheOpen.{Redir-F}
use Rattle.eb_syntax.specs.declared.tree.Redir.{Redir, out-Redir}
use Rattle.eb_syntax.specs.declared.tree.Redir.TheVariants as redir
use Rattle.eb_syntax.specs.declared.tree.Word.{Word}
use Rattle.eb_bytes.specs.Text.{Text}
use Rattle.eb_syntax.specs.Tree.{HereText, Item}
use Rattle.eb_grammar.specs.Peg.{HereMark, Spot, No, Rule, ◌>>=◌, ◌</>◌, gather_from}
use Rattle.eb_grammar.specs.Rules.{Rules}
use Rattle.eb_grammar.specs.HereDocuments.{newline}
use Rattle.eb_grammar.specs.Words.{word}
use Rattle.eb_grammar.specs.Grammar.{inside}
use Rattle.eb_grammar.specs.Commands.{body, item, items, items_of, own}
use Rattle.eb_grammar.specs.Fill.{body_of, filled_item, filled_redir}

-- a rule that takes a byte wherever it has a node, and has none at the end of the text
pub record TakesBytes {A : Type 0} (p : Rule (List A)) : Type 0 where
  pub takes : (s s' : Spot) (xs : List A) → p s ≡ Ok (xs, s') → length s'.rest < length s.rest
  pub stops : (s : Spot) → length s.rest ≡ 0 → p s ≡ Err No

-- how many turns p* may make does not matter, where they are as many as the bytes
abbrev pub NeedsNoBound : Type 0 → Type 0
NeedsNoBound A = (p : Rule (List A)) → TakesBytes p → (n m : ℕ) (found : List A) (s : Spot) → length s.rest ≤ n → length s.rest ≤ m → gather_from p n found s ≡ gather_from p m found s

-- a reading leaves fewer bytes than stood there
abbrev pub Takes : {A : Type 0} → Rule A → Type 0
Takes {A} p = (s s' : Spot) (x : A) → p s ≡ Ok (x, s') → length s'.rest < length s.rest

-- a reading leaves at most the bytes that stood there
abbrev pub Keeps : {A : Type 0} → Rule A → Type 0
Keeps {A} p = (s s' : Spot) (x : A) → p s ≡ Ok (x, s') → length s'.rest ≤ length s.rest

-- wherever it stands, a word takes a byte
abbrev pub WordsTake : Type 0
WordsTake = (n : ℕ) → Takes (word (inside n))

-- so does an item
abbrev pub ItemTakes : Type 0
ItemTakes = (n : ℕ) → Takes (item (inside n))

-- and a body of commands
abbrev pub BodyTakes : Type 0
BodyTakes = (n : ℕ) → Takes (body (inside n))

-- a list of commands, which may be empty, ends at or before the text's end
abbrev pub ItemsKeep : Type 0
ItemsKeep = (n : ℕ) → Keeps (items (inside n))

-- p f / p g is p (f / g): alternatives that begin alike may read what they share once
abbrev pub SharesBeginnings : Type 0 → Type 0 → Type 0
SharesBeginnings A B = (p : Rule A) (f g : A → Rule B) (s : Spot) → ((p >>= f) </> (p >>= g)) s ≡ (p >>= (λ a. f a </> g a)) s

abbrev pub mark_of : HereBody → ℕ
mark_of b = b.mark

abbrev pub place_of : HereMark → ℕ
place_of m = m.place

-- after a newline no here-document waits for its body, and each that waited has one, in their order
abbrev pub NewlineAnswers : Type 0
NewlineAnswers = (inside : Option Rules) (s s' : Spot) → newline inside s ≡ Ok (tt, s') →
    (s'.waiting ≡ []) × (map mark_of s'.bodies ≡ map mark_of s.bodies ++ map place_of s.waiting)

-- a finished list of commands: what its items are before their bodies are filled in, and where they end
pub record Owned (p : Rule (List Item)) (s s' : Spot) (node : Items) : Type 0 where
  pub items : List Item
  pub stop : Spot
  -- they are read with no marks and no bodies but their own
  pub reads : p (record s { waiting = []; bodies = [] }) ≡ Ok (items, stop)
  -- no mark of their own waits at their end
  pub answered : stop.waiting ≡ []
  -- each is filled with the bodies that were read
  pub filled : node ≡ items_of (map (filled_item stop.bodies) items)
  -- and what was set aside is back
  pub back : s' ≡ record stop { waiting = s.waiting; bodies = s.bodies }

abbrev pub OwnsMarks : Type 0
OwnsMarks = (p : Rule (List Item)) (s s' : Spot) (node : Items) → own p s ≡ Ok (node, s') → Owned p s s' node

-- the redirection of a mark holds the body of that mark
abbrev pub FillsBodies : Type 0
FillsBodies = (bodies : List HereBody) (r : Redir) (number : Text) (which : HereOp) (word : Word) (mark : ℕ) (body : Option HereText) →
    out-Redir r ≡ Redir-F.Here number which word mark body → filled_redir bodies r ≡ redir.Here number which word mark (body_of mark bodies)
