-- What a rule says where more nestings may be opened: the same, unless it nested too deep.
use Rattle.std.specs.Prelude.{◌≡◌, ℕ, ◌≤◌, Bool, Option, Some, None, Ok, Err}
use Rattle.eb_grammar.specs.Peg.{Spot, No, Deep, Outcome, Rule}
use Rattle.eb_grammar.specs.Grammar.{inside, rules_in}
use Rattle.eb_grammar.specs.Commands.{turn}
use Rattle.eb_grammar.specs.Rules.{Rules}

-- the second outcome is the first, unless that is "too deep"
abbrev pub SameUnlessDeep : {A : Type 0} → Outcome A → Outcome A → Type 0
SameUnlessDeep (Ok x) o = o ≡ Ok x
SameUnlessDeep (Err No) o = o ≡ Err No
SameUnlessDeep (Err (Deep line)) o = Unit {0}

-- wherever the first rule doesn't nest too deep, the second has the same outcome
pub record Refines {A : Type 0} (p q : Rule A) : Type 0 where
  pub at : (s : Spot) → SameUnlessDeep (p s) (q s)

-- so does each rule that stands inside a nesting
pub record RefinesRules (a b : Rules) : Type 0 where
  pub items : Refines a.items b.items
  pub body : Refines a.body b.body
  pub lines : Refines a.lines b.lines
  pub word : Refines a.word b.word
  pub piece : Refines a.piece b.piece
  pub unquoted_piece : Refines a.unquoted_piece b.unquoted_piece
  pub quoted_piece : Refines a.quoted_piece b.quoted_piece
  pub double_quoted : Refines a.double_quoted b.double_quoted
  pub dollar : (quoted : Bool) → Refines (a.dollar quoted) (b.dollar quoted)
  pub backquoted : Refines a.backquoted b.backquoted
  pub subscript : Refines a.subscript b.subscript
  pub arith : (quoted : Bool) → Refines (a.arith quoted) (b.arith quoted)
  pub arith_part : Refines a.arith_part b.arith_part
  pub or : Refines a.or b.or
  pub not : Refines a.not b.not
  pub regex : Refines a.regex b.regex

-- fewer nestings against more
abbrev pub RefinesBelow : Option Rules → Option Rules → Type 0
RefinesBelow None o = Unit {0}
RefinesBelow (Some a) None = ⊥
RefinesBelow (Some a) (Some b) = RefinesRules a b

-- where more nestings may be opened, each rule has the node that it had, and none where it had none
abbrev pub MoreRoomRefines : Type 0
MoreRoomRefines = (n m : ℕ) → n ≤ m → RefinesRules (rules_in (inside n)) (rules_in (inside m))
