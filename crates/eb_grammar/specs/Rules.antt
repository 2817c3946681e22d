-- The rules that stand inside a nesting, each as it reads there.
use Rattle.std.specs.Prelude.{Bool}
use Rattle.eb_bytes.specs.Text.{Text}
use Rattle.eb_syntax.specs.declared.tree.Items.{Items}
use Rattle.eb_syntax.specs.declared.tree.Word.{Word}
use Rattle.eb_syntax.specs.declared.tree.Piece.{Piece}
use Rattle.eb_syntax.specs.declared.tree.QPiece.{QPiece}
use Rattle.eb_syntax.specs.declared.tree.Dollar.{Dollar}
use Rattle.eb_syntax.specs.declared.tree.Not.{Not}
use Rattle.eb_syntax.specs.Tree.{ArithText, Back, Body, DQ, Or, Regex, Sub}
use Rattle.eb_grammar.specs.Peg.{Rule}

-- what a piece of a here-document's word is in the delimiter: its bytes after quote removal, and whether any is quoted
pub record Unquoted : Type 0 where
  pub bytes : Text
  pub quoted : Bool

-- Of a rule that takes a Bool it says whether the rule is reached inside double quotes or a here-document.
pub record Rules : Type 0 where
  pub items : Rule Items
  pub body : Rule Body
  pub lines : Rule (Unit {0})
  pub word : Rule Word
  pub piece : Rule Piece
  pub unquoted_piece : Rule (Piece × Unquoted)
  pub quoted_piece : Rule QPiece
  pub double_quoted : Rule DQ
  pub dollar : Bool → Rule Dollar
  pub backquoted : Rule Back
  pub subscript : Rule Sub
  pub arith : Bool → Rule ArithText
  pub arith_part : Rule ArithText
  pub or : Rule Or
  pub not : Rule Not
  pub regex : Rule Regex
