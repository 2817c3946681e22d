-- What a rule on the level of words says whatever here-documents wait and whatever bodies were read: the same, and these stay as they are.
use Rattle.std.specs.Prelude.{◌≡◌, ℕ, Bool, List, Option, Some, None, Ok, Err}
use Rattle.eb_syntax.specs.declared.tree.HereBody.{HereBody}
use Rattle.eb_grammar.specs.Peg.{HereMark, Spot, Outcome, Rule}
use Rattle.eb_grammar.specs.Grammar.{inside, rules_in}
use Rattle.eb_grammar.specs.Rules.{Rules}

-- the same place, where these here-documents wait and these bodies were read
abbrev pub with_marks : List HereMark → List HereBody → Spot → Spot
with_marks waiting bodies s = record s { waiting = waiting; bodies = bodies }

abbrev pub outcome_with : {A : Type 0} → List HereMark → List HereBody → Outcome A → Outcome A
outcome_with waiting bodies (Ok x) = Ok (x.0, with_marks waiting bodies x.1)
outcome_with waiting bodies (Err e) = Err e

pub record IgnoresMarks {A : Type 0} (p : Rule A) : Type 0 where
  pub at : (waiting : List HereMark) (bodies : List HereBody) (s : Spot) → p (with_marks waiting bodies s) ≡ outcome_with waiting bodies (p s)

-- so do the rules on the level of words that stand inside a nesting; a list of commands has marks of its own
pub record WordsIgnoreMarks (r : Rules) : Type 0 where
  pub items : IgnoresMarks r.items
  pub body : IgnoresMarks r.body
  pub word : IgnoresMarks r.word
  pub piece : IgnoresMarks r.piece
  pub unquoted_piece : IgnoresMarks r.unquoted_piece
  pub quoted_piece : IgnoresMarks r.quoted_piece
  pub double_quoted : IgnoresMarks r.double_quoted
  pub dollar : (quoted : Bool) → IgnoresMarks (r.dollar quoted)
  pub backquoted : IgnoresMarks r.backquoted
  pub subscript : IgnoresMarks r.subscript
  pub arith : (quoted : Bool) → IgnoresMarks (r.arith quoted)
  pub arith_part : IgnoresMarks r.arith_part
  pub regex : IgnoresMarks r.regex

abbrev pub IgnoreMarksBelow : Option Rules → Type 0
IgnoreMarksBelow None = Unit {0}
IgnoreMarksBelow (Some r) = WordsIgnoreMarks r

-- however many nestings may still be opened
abbrev pub EachIgnoresMarks : Type 0
EachIgnoresMarks = (n : ℕ) → WordsIgnoreMarks (rules_in (inside n))
