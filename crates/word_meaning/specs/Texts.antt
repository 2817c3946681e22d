-- Words and other texts of a script that give one text each (Bash Reference Manual, "Shell Parameters", "Pattern
-- Matching", "Here Documents", "Shell Arithmetic", "Arrays"). There are no braces, splitting and pathnames in them. Each
-- has its limit, and costs as it is expanded.
use Rattle.std.specs.Prelude.{List}
use Rattle.eb_bytes.specs.Text.{Text}
use Rattle.eb_syntax.specs.Tree.{ArithText, HereText, Sub}
use Rattle.eb_syntax.specs.declared.parts.HereTextOf.TheVariants as here
use Rattle.eb_syntax.specs.declared.tree.Items.{Items}
use Rattle.eb_syntax.specs.declared.tree.Piece.{Piece}
use Rattle.eb_syntax.specs.declared.tree.Word.{Word, out-Word}
use Rattle.shell_state.specs.Outcome.{Doing, ◌>>=◌, ◌>>◌, pure}
pub use Rattle.word_meaning.specs.Limits.{one_text}
use Rattle.word_meaning.specs.Marks.{Given, Marks, bytes_of}
use Rattle.word_meaning.specs.Words.{arith, outermost, pieces, quoted, subscript}
use Rattle.word_meaning.specs.declared.mode.Mode.TheVariants as mode
use Rattle.word_meaning.specs.declared.mode.Tildes.{Tildes}
use Rattle.word_meaning.specs.declared.mode.Tildes.TheVariants as tildes

abbrev pub given_text : Given → Doing Text
given_text g = one_text (bytes_of g)

abbrev pub given_marks : Given → Doing Marks
given_marks g = given_text g >> pure g.marks

module _ (sub : Items → Doing Text) where
  -- pieces that give one text
  unfoldable pub text_of_pieces : Tildes → List Piece → Doing Text
  text_of_pieces where_ ps = pieces sub (outermost sub) mode.Text where_ ps >>= given_text

  -- an assigned value
  unfoldable pub assigned : Word → Doing Text
  assigned w = text_of_pieces tildes.InValue (out-Word w).pieces

  -- the word of a case command, an operand of `[[`, a here-string, the target of a redirection
  unfoldable pub text : Word → Doing Text
  text w = text_of_pieces tildes.AtStart (out-Word w).pieces

  -- a pattern of a case command or of `[[`: its marks
  unfoldable pub pattern : Word → Doing Marks
  pattern w = pieces sub (outermost sub) mode.Text tildes.AtStart (out-Word w).pieces >>= given_marks

  -- the body of a here-document; where its delimiter was quoted nothing in it is expanded
  unfoldable pub here_text : HereText → Doing Text
  here_text (here.Literal t) = one_text t
  here_text (here.Parts qs) = quoted sub (outermost sub) mode.Text qs >>= given_text

  -- the text of `((`, and of each part of `for ((`
  unfoldable pub arith_text : ArithText → Doing Text
  arith_text aps = arith sub (outermost sub) aps >>= given_text

  -- the subscript of an assignment
  unfoldable pub subscript_text : Sub → Doing Text
  subscript_text parts = subscript sub (outermost sub) parts >>= given_text
