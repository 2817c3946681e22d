-- What a part of a word, or of an extended group in it, is.
use Rattle.std.specs.Prelude.{ℕ, Bool, true, false, List, Option, Some, None}
use Rattle.eb_bytes.specs.Text.{Text}
use Rattle.eb_syntax.specs.Tree.{GroupPart}
use Rattle.eb_syntax.specs.declared.parts.GroupPartOf.TheVariants as part
use Rattle.eb_syntax.specs.declared.parts.Plain.TheVariants as plain
use Rattle.eb_syntax.specs.declared.tree.AP.TheOpen.{Dollar-F, Piece-F}
use Rattle.eb_syntax.specs.declared.tree.AP.{AP}
use Rattle.eb_syntax.specs.declared.tree.Argument.{Argument}
use Rattle.eb_syntax.specs.declared.tree.Command.{Command}
use Rattle.eb_syntax.specs.declared.tree.Compound.{Compound}
use Rattle.eb_syntax.specs.declared.tree.Dollar.{Dollar, out-Dollar}
use Rattle.eb_syntax.specs.declared.tree.Not.{Not}
use Rattle.eb_syntax.specs.declared.tree.Op.{Op}
use Rattle.eb_syntax.specs.declared.tree.PW.{PW}
use Rattle.eb_syntax.specs.declared.tree.Param.{Param}
use Rattle.eb_syntax.specs.declared.tree.Piece.{Piece, out-Piece}
use Rattle.eb_syntax.specs.declared.tree.Piece.TheVariants as piece
use Rattle.eb_syntax.specs.declared.tree.Prefix.{Prefix}
use Rattle.eb_syntax.specs.declared.tree.Primary.{Primary}
use Rattle.eb_syntax.specs.declared.tree.QPiece.{QPiece}
use Rattle.eb_syntax.specs.declared.tree.Redir.{Redir}
use Rattle.eb_syntax.specs.declared.tree.RegexPart.{RegexPart}
use Rattle.eb_syntax.specs.declared.tree.SW.{SW}
use Rattle.eb_syntax.specs.declared.tree.SubPart.{SubPart}
use Rattle.eb_syntax.specs.declared.tree.TailPart.{TailPart}
use Rattle.eb_syntax.specs.declared.tree.Assign.{Assign}
use Rattle.eb_syntax.specs.declared.tree.Clause.{Clause}
use Rattle.eb_syntax.specs.declared.tree.Decl.{Decl}
use Rattle.eb_syntax.specs.declared.tree.Items.{Items}
use Rattle.eb_syntax.specs.declared.tree.Simple.{Simple}
use Rattle.eb_syntax.specs.declared.tree.Tail.{Tail}
use Rattle.eb_syntax.specs.declared.tree.Word.{Word, out-Word}

-- one level of a tree
abbrev pub PieceLayer : Type 0
PieceLayer = Piece-F AP Argument Command Compound Dollar Not Op PW Param Piece Prefix Primary QPiece Redir RegexPart SW SubPart TailPart Assign Clause Decl Items Simple Tail Word

abbrev pub DollarLayer : Type 0
DollarLayer = Dollar-F AP Argument Command Compound Dollar Not Op PW Param Piece Prefix Primary QPiece Redir RegexPart SW SubPart TailPart Assign Clause Decl Items Simple Tail Word

-- an unquoted byte
abbrev pub plain_piece : ℕ → Piece
plain_piece b = piece.Plain (plain.Byte b)

-- the unquoted byte that a part is
abbrev pub byte_at : PieceLayer → Option ℕ
byte_at (Piece-F.Plain (plain.Byte b)) = Some b
byte_at other = None

abbrev pub plain_byte : GroupPart → Option ℕ
plain_byte (part.Piece p) = byte_at (out-Piece p)
plain_byte other = None

-- whether a piece is a backslash and a newline, which stand for nothing
abbrev pub continuation_at : PieceLayer → Bool
continuation_at Piece-F.Piece::Continuation = true
continuation_at other = false

-- the beginning of a name that a part is: `$` and its bytes, or a dollar that began nothing
abbrev pub name_at : DollarLayer → Option Text
name_at (Dollar-F.Name n) = Some n
name_at other = None

abbrev pub name_of : PieceLayer → Option Text
name_of (Piece-F.Piece::Dollar d) = name_at (out-Dollar d)
name_of other = None

abbrev pub name_begun : GroupPart → Option Text
name_begun (part.Piece p) = name_of (out-Piece p)
name_begun other = None

abbrev pub lone_at : PieceLayer → Bool
lone_at (Piece-F.Plain plain.Lone) = true
lone_at other = false

abbrev pub is_lone : GroupPart → Bool
is_lone (part.Piece p) = lone_at (out-Piece p)
is_lone other = false

abbrev pub pieces_of : Word → List Piece
pieces_of w = (out-Word w).pieces
